use Rattle.std.proofs.Common.{ap, sym, ◌∙◌, ◌++◌, arith, string_bytes}
use Rattle.std.proofs.lemmas.Str.{encode_ascii}
use Rattle.vm_promtext.proofs.EscapeLaws.{plain, plain_pushed}
use Rattle.vm_promtext.proofs.escapes.push_escape.Goals as goal

pub returns-in-None-clause-decoded : goal.returns-in-None-clause-decoded
returns-in-None-clause-decoded c =
    plain_pushed (string_bytes c.args.text.now) c.args.escaped.now (string_bytes c.push-2.new.self)
    (c.in_ok-push-3.ensures.bytes
    ∙ ap (λ t. string_bytes c.args.text.now ++ t) (encode_ascii 92 (omega arith)))
    (plain c.args.escaped.now
    (λ rest is.
    c.in_default.ensures.cases rest
    (is ∙ ap (λ t. t ++ rest) (sym (encode_ascii 110 (omega arith)))))
    (λ rest is.
    c.in_default-strip_prefix.ensures.cases rest
    (is ∙ ap (λ t. t ++ rest) (sym (encode_ascii 34 (omega arith)))))
    (λ rest is.
    c.in-None.ensures.cases rest
    (is ∙ ap (λ t. t ++ rest) (sym (encode_ascii 92 (omega arith))))))

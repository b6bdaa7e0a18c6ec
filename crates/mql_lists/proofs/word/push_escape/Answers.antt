use Rattle.std.proofs.Common.{ap, sym, ◌∙◌, ◌++◌, arith, string_bytes}
use Rattle.std.proofs.lemmas.Str.{encode_ascii}
use Rattle.mql_lists.proofs.TextLaws.{plain}
use Rattle.mql_lists.proofs.word.push_escape.Goals as goal

pub returns-in-None-clause-read : goal.returns-in-None-clause-read
returns-in-None-clause-read c =
    ap (λ t. string_bytes c.args.text.now ++ t)
    (plain c.args.escaped.now
    (λ rest is.
    c.in_default.ensures.cases rest
    (is ∙ ap (λ t. t ++ rest) (sym (encode_ascii 110 (omega arith)))))
    (λ rest is.
    c.in_default-strip_prefix.ensures.cases rest
    (is ∙ ap (λ t. t ++ rest) (sym (encode_ascii 116 (omega arith)))))
    (λ rest is.
    c.in-None.ensures.cases rest
    (is ∙ ap (λ t. t ++ rest) (sym (encode_ascii 92 (omega arith))))))

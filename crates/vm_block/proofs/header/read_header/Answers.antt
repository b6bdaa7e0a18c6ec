-- What the fields of 40 bytes say of a header.
use Rattle.std.proofs.Common.{◌≡◌, IfOk, IfErr, Ok, Err, List, ℕ, length, get_or, ◌<◌, Result, Some, None, ap, subst}
use Rattle.vm_base.specs.declared.broken.Broken.{Broken}
use Rattle.vm_block.specs.Header.{IsHeader, header_bytes, field_rules, first_broken}
use Rattle.vm_block.specs.inner.Reading.{AreFields}
use Rattle.vm_block.specs.declared.header.BlockHeader.{BlockHeader}
use Rattle.vm_block.proofs.Headers.{fields_again, fields_kept, fields_header, one_header}
use Rattle.vm_block.proofs.header.read_header.Goals as goal

header : (bytes : List ℕ) (r : Result BlockHeader Broken) → length bytes ≡ 40
    → ((i : ℕ) → get_or bytes i 0 < 256)
    → IfOk r (AreFields bytes) → IfOk r (λ h. IsHeader h × (header_bytes h ≡ bytes))
header bytes (Ok h) all are fields = fields_header bytes h all are fields
header bytes (Err e) all are fields = tt

only : (bytes : List ℕ) (r : Result BlockHeader Broken) → IfOk r (AreFields bytes)
    → IfErr r (λ e. first_broken (field_rules bytes) ≡ Some e.at)
    → (h : BlockHeader) → IsHeader h → header_bytes h ≡ bytes → r ≡ Ok h
only bytes (Ok other) fields broken h is written =
    ap Ok (one_header bytes other h fields
    (subst (λ bs. AreFields bs h) written (fields_again h is)))
only bytes (Err e) fields broken h is written =
    let kept : first_broken (field_rules bytes) ≡ None =
    fields_kept bytes h (subst (λ bs. AreFields bs h) written (fields_again h is)) in
    absurd (cc)

pub returns-clause-header : goal.returns-clause-header
returns-clause-header c =
    header c.args.bytes.now c.read_fields.result c.told-bytes c.fits-bytes
    c.read_fields.ensures.fields

pub returns-clause-only : goal.returns-clause-only
returns-clause-only c =
    only c.args.bytes.now c.read_fields.result c.read_fields.ensures.fields
    c.read_fields.ensures.broken

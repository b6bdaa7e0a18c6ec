-- Which part the bytes are, or where they break.
use Rattle.std.proofs.Common.{◌-◌, ◌∙◌, subst, arith}
use Rattle.std.proofs.lemmas.Result.{err_from_is_err_and}
use Rattle.vm_index.proofs.ReadLaws.{IsBytes}
use Rattle.vm_part.specs.Broken.Breaks.{too_short}
use Rattle.vm_part.specs.inner.Reading.{HasAllBlocks}
use Rattle.vm_part.proofs.FileLaws.{blocks_fault, entries_fault, entries_rise, file_long, file_says, footer_fault, index_fault, rules_kept}
use Rattle.vm_part.proofs.reading.find.Goals as goal

pub returns-then-len-lt-MIN_LEN-clause-broken : goal.returns-then-len-lt-MIN_LEN-clause-broken
returns-then-len-lt-MIN_LEN-clause-broken c = too_short c.if-len-lt-MIN_LEN.true

pub returns-in_err-footer-clause-broken : goal.returns-in_err-footer-clause-broken
returns-in_err-footer-clause-broken c =
    let p = err_from_is_err_and c.from_residual.result c.from_residual.ensures.1 in
    rw (p.1, p.2)
    (footer_fault c.args.len c.args.bytes.now c.in_err-footer.field-0.0.at
    c.if-len-lt-MIN_LEN.false c.in_err-footer.ensures.broken)

pub returns-in_err-entries-clause-broken : goal.returns-in_err-entries-clause-broken
returns-in_err-entries-clause-broken c =
    let p = err_from_is_err_and c.from_residual-in_err-entries.result
    c.from_residual-in_err-entries.ensures.1 in
    rw (p.1, p.2)
    (entries_fault c.args.len c.args.bytes.now c.in_ok-footer.footer c.in_err-entries.field-0.0
    c.if-len-lt-MIN_LEN.false
    c.in_ok-footer.ensures.kept c.in_ok-footer.ensures.footer c.in_err-entries.ensures.broken)

pub returns-in_err-index-clause-broken : goal.returns-in_err-index-clause-broken
returns-in_err-index-clause-broken c =
    let f = c.in_ok-footer.footer in
    let p = err_from_is_err_and c.from_residual-in_err-index.result
    c.from_residual-in_err-index.ensures.1 in
    rw (p.1, p.2)
    (index_fault c.args.len c.args.bytes.now f c.in_err-index.field-0.0
    c.if-len-lt-MIN_LEN.false
    (rules_kept (c.args.len - 48) c.args.bytes.now f c.in_ok-footer.ensures.kept
    c.in_ok-footer.ensures.footer c.in_ok-entries.ensures.kept)
    c.in_ok-footer.ensures.footer c.in_err-index.ensures.broken)

pub check_blocks-requires-clause-places : goal.check_blocks-requires-clause-places
check_blocks-requires-clause-places c =
    entries_rise c.args.bytes.now c.in_ok-footer.footer c.as_slice.result.now
    (c.as_slice.ensures ∙ c.in_ok-entries.ensures.entries) c.in_ok-entries.ensures.kept

pub returns-in_err-check_blocks-clause-broken : goal.returns-in_err-check_blocks-clause-broken
returns-in_err-check_blocks-clause-broken c =
    let f = c.in_ok-footer.footer in
    let p = err_from_is_err_and c.from_residual-in_err-check_blocks.result
    c.from_residual-in_err-check_blocks.ensures.1 in
    rw (p.1, p.2)
    (blocks_fault c.args.len c.args.bytes.now f c.as_slice.result.now c.in_ok-index.index
    c.in_err-check_blocks.field-0.0 c.if-len-lt-MIN_LEN.false
    (rules_kept (c.args.len - 48) c.args.bytes.now f c.in_ok-footer.ensures.kept
    c.in_ok-footer.ensures.footer c.in_ok-entries.ensures.kept)
    c.in_ok-footer.ensures.footer c.in_ok-index.ensures.table c.in_ok-index.ensures.postings
    (c.as_slice.ensures ∙ c.in_ok-entries.ensures.entries)
    c.in_err-check_blocks.ensures.broken)

pub returns-clause-says : goal.returns-clause-says
returns-clause-says c =
    let f = c.in_ok-footer.footer in
    let fits : IsBytes c.args.bytes.now = λ i. omega (arith, c.type_inv.bytes i) in
    file_says c.args.len c.args.bytes.now f c.in_ok-entries.entries c.in_ok-index.index fits
    c.requires c.if-len-lt-MIN_LEN.false
    c.in_ok-footer.ensures.footer c.in_ok-footer.ensures.sections c.in_ok-entries.ensures.entries
    c.in_ok-entries.ensures.kept
    c.in_ok-index.ensures.table c.in_ok-index.ensures.postings
    (subst (HasAllBlocks c.args.bytes.now f.entries_at) c.as_slice.ensures
    c.in_ok-check_blocks.ensures.stand)
    (omega arith) (omega arith)

pub returns-clause-long : goal.returns-clause-long
returns-clause-long c =
    file_long c.args.len c.args.bytes.now c.in_ok-footer.footer c.requires c.if-len-lt-MIN_LEN.false
    c.in_ok-footer.ensures.sections

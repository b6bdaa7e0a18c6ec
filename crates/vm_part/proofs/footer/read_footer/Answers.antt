-- The first field that breaks its rule, or the sections.
use Rattle.std.proofs.Common.{◌-◌, Some, sym, ap, ◌∙◌, subst}
use Rattle.std.proofs.lemmas.Result.{err_from_is_err_and}
use Rattle.vm_part.specs.inner.Reading.{AreSections}
use Rattle.vm_part.specs.declared.footer.Footer.{Footer}
use Rattle.vm_part.proofs.SectionLaws.{broken_entries, broken_front, broken_mark, broken_postings, broken_rows, broken_series, broken_table, none_broken, footer_is, sections}
use Rattle.vm_part.proofs.footer.read_footer.Goals as goal

pub returns-in_err-check : goal.returns-in_err-check
returns-in_err-check c =
    let p = err_from_is_err_and c.from_residual.result c.from_residual.ensures.1 in
    rw (p.1, p.2) (record {
      footer = tt;
      sections = tt;
      kept = tt;
      broken =
          broken_front (c.args.len - 48) c.args.bytes.now
          (sym c.has_mark.ensures ∙ c.in_err-check.ensures.broken.0)
          ∙ ap Some (sym c.in_err-check.ensures.broken.1);
    })

pub returns-in_err-entries_at : goal.returns-in_err-entries_at
returns-in_err-entries_at c =
    let p = err_from_is_err_and c.from_residual-in_err-entries_at.result
    c.from_residual-in_err-entries_at.ensures.1 in
    rw (p.1, p.2) (record {
      footer = tt;
      sections = tt;
      kept = tt;
      broken =
          broken_entries (c.args.len - 48) c.args.bytes.now
          (sym c.has_mark.ensures ∙ c.in_ok-check.ensures.ok) c.in_err-entries_at.ensures.broken.0
          ∙ ap Some (sym c.in_err-entries_at.ensures.broken.1);
    })

pub returns-in_err-table_at : goal.returns-in_err-table_at
returns-in_err-table_at c =
    let p = err_from_is_err_and c.from_residual-in_err-table_at.result
    c.from_residual-in_err-table_at.ensures.1 in
    rw (p.1, p.2) (record {
      footer = tt;
      sections = tt;
      kept = tt;
      broken =
          broken_table (c.args.len - 48) c.args.bytes.now
          (sym c.has_mark.ensures ∙ c.in_ok-check.ensures.ok) c.in_ok-entries_at.ensures.kept
          c.in_err-table_at.ensures.broken.0 ∙ ap Some (sym c.in_err-table_at.ensures.broken.1);
    })

pub returns-in_err-postings_at : goal.returns-in_err-postings_at
returns-in_err-postings_at c =
    let p = err_from_is_err_and c.from_residual-in_err-postings_at.result
    c.from_residual-in_err-postings_at.ensures.1 in
    rw (p.1, p.2) (record {
      footer = tt;
      sections = tt;
      kept = tt;
      broken =
          broken_postings (c.args.len - 48) c.args.bytes.now
          (sym c.has_mark.ensures ∙ c.in_ok-check.ensures.ok) c.in_ok-entries_at.ensures.kept
          c.in_ok-table_at.ensures.kept c.in_err-postings_at.ensures.broken.0
          ∙ ap Some (sym c.in_err-postings_at.ensures.broken.1);
    })

pub returns-in_err-series : goal.returns-in_err-series
returns-in_err-series c =
    let p = err_from_is_err_and c.from_residual-in_err-series.result
    c.from_residual-in_err-series.ensures.1 in
    rw (p.1, p.2) (record {
      footer = tt;
      sections = tt;
      kept = tt;
      broken =
          broken_series (c.args.len - 48) c.args.bytes.now
          (sym c.has_mark.ensures ∙ c.in_ok-check.ensures.ok) c.in_ok-entries_at.ensures.kept
          c.in_ok-table_at.ensures.kept c.in_ok-postings_at.ensures.kept
          c.in_err-series.ensures.broken.0 ∙ ap Some (sym c.in_err-series.ensures.broken.1);
    })

pub returns-in_err-rows : goal.returns-in_err-rows
returns-in_err-rows c =
    let p = err_from_is_err_and c.from_residual-in_err-rows.result
    c.from_residual-in_err-rows.ensures.1 in
    rw (p.1, p.2) (record {
      footer = tt;
      sections = tt;
      kept = tt;
      broken =
          broken_rows (c.args.len - 48) c.args.bytes.now
          (sym c.has_mark.ensures ∙ c.in_ok-check.ensures.ok) c.in_ok-entries_at.ensures.kept
          c.in_ok-table_at.ensures.kept c.in_ok-postings_at.ensures.kept c.in_ok-series.ensures.kept
          c.in_err-rows.ensures.broken.0 ∙ ap Some (sym c.in_err-rows.ensures.broken.1);
    })

pub returns-in_err-check-2 : goal.returns-in_err-check-2
returns-in_err-check-2 c =
    let p = err_from_is_err_and c.from_residual-in_err-check-2.result
    c.from_residual-in_err-check-2.ensures.1 in
    rw (p.1, p.2) (record {
      footer = tt;
      sections = tt;
      kept = tt;
      broken =
          broken_mark (c.args.len - 48) c.args.bytes.now
          (sym c.has_mark.ensures ∙ c.in_ok-check.ensures.ok) c.in_ok-entries_at.ensures.kept
          c.in_ok-table_at.ensures.kept c.in_ok-postings_at.ensures.kept c.in_ok-series.ensures.kept
          c.in_ok-rows.ensures.whole (sym c.has_mark-2.ensures ∙ c.in_err-check-2.ensures.broken.0)
          ∙ ap Some (sym c.in_err-check-2.ensures.broken.1);
    })

pub returns : goal.returns
returns c =
    let at = c.args.len - 48 in
    let bytes = c.args.bytes.now in
    let read : Footer = record {
      entries_at = c.in_ok-entries_at.entries_at;
      table_at = c.in_ok-table_at.table_at;
      postings_at = c.in_ok-postings_at.postings_at;
      series = c.in_ok-series.series;
      rows = c.in_ok-rows.rows;
    } in
    let is =
    footer_is at bytes read c.in_ok-entries_at.ensures.number c.in_ok-table_at.ensures.number
    c.in_ok-postings_at.ensures.number
    c.in_ok-series.ensures.number c.in_ok-rows.ensures.number in
    record {
      footer = is;
      sections =
          subst (AreSections at bytes) (sym is)
          (sections at bytes (sym c.has_mark.ensures ∙ c.in_ok-check.ensures.ok)
          c.in_ok-entries_at.ensures.kept c.in_ok-table_at.ensures.kept
          c.in_ok-postings_at.ensures.kept c.in_ok-series.ensures.kept
          (sym c.has_mark-2.ensures ∙ c.in_ok-check-2.ensures.ok));
      kept = none_broken at bytes (sym c.has_mark.ensures ∙ c.in_ok-check.ensures.ok)
          c.in_ok-entries_at.ensures.kept c.in_ok-table_at.ensures.kept
          c.in_ok-postings_at.ensures.kept c.in_ok-series.ensures.kept c.in_ok-rows.ensures.whole
          (sym c.has_mark-2.ensures ∙ c.in_ok-check-2.ensures.ok);
      broken = tt;
    }

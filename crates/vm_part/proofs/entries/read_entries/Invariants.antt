use Rattle.std.proofs.Common.{◌≡◌, ◌+◌, ◌-◌, ◌*◌, ◌^◌, ◌≤◌, ◌++◌, None}
use Rattle.vm_block.specs.Header.{first_broken}
use Rattle.vm_part.specs.Broken.{entries_at, entries_rules}
use Rattle.vm_part.proofs.entries.read_entries.Given as goal

-- what is said of the entries that are left is said of all, and the rows so far are no more than
-- the numbers may be
abbrev pub invariant-each : goal.invariant-each
invariant-each l = record {
  rules : first_broken
      (entries_rules l.footer.entries_at l.bytes l.footer.rows (l.footer.series - l.n)
      (l.footer.entries_at + 40 * l.n) l.before l.rows)
      ≡ first_broken
      (entries_rules l.footer.entries_at l.bytes l.footer.rows l.footer.series l.footer.entries_at
      None 0);
  list : l.entries ++ entries_at (l.footer.series - l.n) (l.footer.entries_at + 40 * l.n) l.bytes
      ≡ entries_at l.footer.series l.footer.entries_at l.bytes;
  few : l.rows ≤ 2 ^ 64 * l.n;
}

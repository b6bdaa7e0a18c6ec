-- Where the label table or the postings break.
use Rattle.std.proofs.Common.{refl, inl, inr, arith}
use Rattle.vm_part.proofs.IndexLaws.{postings_place, table_place}
use Rattle.vm_part.proofs.reading.read_index.Goals as goal

pub returns-in-Err-BrokenTable-clause-broken : goal.returns-in-Err-BrokenTable-clause-broken
returns-in-Err-BrokenTable-clause-broken c =
    let fault = rw c.in-Err-BrokenTable.field-0-is at c.in-Err-BrokenTable.ensures.broken in
    inl (c.in-Err-BrokenTable.at, refl, fault)

pub returns-in-Err-BrokenPostings-clause-broken : goal.returns-in-Err-BrokenPostings-clause-broken
returns-in-Err-BrokenPostings-clause-broken c =
    let fault = rw c.in-Err-BrokenPostings.field-0-is at c.in-Err-BrokenPostings.ensures.broken in
    inr (c.in-Err-BrokenPostings.at, refl, fault)

pub overflow_add-in_table : goal.overflow_add-in_table
overflow_add-in_table c =
    let fault = rw c.in-Err-BrokenTable.field-0-is at c.in-Err-BrokenTable.ensures.broken in
    omega (
      arith,
      table_place c.args.at c.args.bytes.now c.args.footer.now c.in-Err-BrokenTable.at c.requires
          fault,
    )

pub overflow_add-in_postings : goal.overflow_add-in_postings
overflow_add-in_postings c =
    let fault = rw c.in-Err-BrokenPostings.field-0-is at c.in-Err-BrokenPostings.ensures.broken in
    omega (
      arith,
      postings_place c.args.at c.args.bytes.now c.args.footer.now c.in-Err-BrokenPostings.at
          c.requires fault,
    )

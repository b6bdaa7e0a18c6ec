use Rattle.std.proofs.Common.{arith}
use Rattle.vm_index.specs.Bytes.{postings_fields}
use Rattle.vm_index.proofs.ReadLaws.{rest_inside, left_inside}
use Rattle.vm_index.proofs.read.first_off.Goals as goal
use Rattle.vm_index.proofs.read.first_off.Goals.{in-Ok+else-is_empty, in-Err}

pub overflow_sub-result : goal.overflow_sub-result
overflow_sub-result c =
    elim c.match-behind_all.branch [
      | in-Ok+else-is_empty w ↦
          omega (
            arith,
            w.left-is,
            rest_inside (postings_fields c.args.postings.now) c.args.bytes.now w.in-Ok.rest.now
                w.in-Ok.ensures,
          )
      | in-Err w ↦
          omega (
            arith,
            w.left-is,
            left_inside (postings_fields c.args.postings.now) c.args.bytes.now w.in-Err.left
                w.in-Err.ensures,
          )
    ]

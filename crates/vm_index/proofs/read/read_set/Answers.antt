use Rattle.std.proofs.Common.{◌≡◌, true}
use Rattle.std.specs.List.{list_all}
use Rattle.vm_index.specs.Index.{is_set_below}
use Rattle.vm_index.proofs.ReadLaws.{sets_more}
use Rattle.vm_index.proofs.read.read_set.Goals as goal

pub returns-clause-ok : goal.returns-clause-ok
returns-clause-ok c =
    let all : list_all (λ s. is_set_below s c.in-Ok.set) c.args.sets.now ≡ true = cc in
    record {
      set = c.in-Ok.set;
      written = c.in-Ok.ensures.found.0;
      spelled = c.in-Ok.ensures.found.1;
      put = c.in_ok-push.ensures.ok;
      labels =
          rw c.in_ok-push.ensures.ok
          (sets_more c.args.sets.now c.in-Ok.set c.requires.sets c.in-Ok.ensures.found.0 all);
    }

use Rattle.std.proofs.Common.{◌≡◌, true, All, map, take}
use Rattle.std.specs.List.{list_all}
use Rattle.vm_base.specs.Sample.{is_sample}
use Rattle.vm_codec.specs.Coding.{IsInBounds}
use Rattle.vm_block.specs.Block.{values_of}
use Rattle.vm_block.specs.inner.Reading.{raised_by}
use Rattle.vm_block.proofs.encode.mantissas.Given as goal

abbrev pub invariant-loop-sample : goal.invariant-loop-sample
invariant-loop-sample l = record {
  values : values_of (take l.sample-index l.samples) ≡ map (raised_by l.shift) l.mantissas.items;
  bounds : All IsInBounds l.mantissas.items;
  samples : list_all is_sample (values_of (take l.sample-index l.samples)) ≡ true;
}

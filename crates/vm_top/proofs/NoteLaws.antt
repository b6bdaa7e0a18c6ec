-- What a line that was written, or not wholly written, leaves.
use Rattle.std.proofs.Common.{ℕ, ◌≤◌, List, length, take, ◌++◌, Option, Result, Ok, Err, refl, sym, ap, ◌∙◌, inl, inr, OnOk, OnErr}
use Rattle.std.proofs.Math.Seq.{take-length}
use Rattle.std.specs.Option.{option_map}
use Rattle.vm_outside.specs.Outside.{Rose, Takes}
use Rattle.vm_top.specs.Statuses.{IsNote}

pub written_line :
    {T E : Type 0} (result : Result T E) (line : List ℕ) (before now : Option (List ℕ))
    (faults_before faults_now : ℕ)
    → OnOk result (Takes before line now)
    → OnErr result ((n : ℕ) × (n ≤ length line) × Takes before (take n line) now)
    → OnErr result (Rose faults_before faults_now) → IsNote line before now faults_before faults_now
written_line (Ok done) line before now faults_before faults_now all part rose = record {
  part = length line;
  whole = inl refl;
  written = all
      ∙ ap (λ piece. option_map (λ taken. taken ++ piece) before) (sym (take-length line));
}
written_line (Err failed) line before now faults_before faults_now all part rose = record {
  part = part.0;
  whole = inr rose;
  written = part.2;
}

-- What was done by a command, whatever its status.
use Rattle.std.proofs.Common.{◌≡◌, ℕ, ◌≤◌, List, [], length, take, Option, Some, None, Result, Ok, Err, IsErrOf, OnOk, refl, inl, inr, ◌⊎◌, rules}
use Rattle.std.specs.Option.{option_map}
use Rattle.vm_outside.specs.Clock.{Answers}
use Rattle.vm_outside.specs.Outside.{Rose, Told, Takes}
use Rattle.vm_outside.proofs.Streams.{takes_nothing}
use Rattle.vm_top.specs.Last.{IsLastAnswer, last_promise}
use Rattle.vm_top.specs.Promise.{IsShort, IsTooLong}
use Rattle.vm_top.specs.Replay.{replay_promise}
use Rattle.vm_top.specs.Statuses.{IsDone, IsAnswered, IsAnsweredInPart, IsCause, status_of, outcome}
use Rattle.vm_top.specs.Words.{replay}
use Rattle.vm_top.specs.World.{world}
use Rattle.vm_top.specs.inner.Playing.{Ends}
use Rattle.vm_top.specs.declared.fault.Fault.{Fault}
use Rattle.vm_top.specs.declared.fault.Fault.TheVariants.{Usage, InputTooLong, BadLine, Input, Output, Memory}
use Rattle.vm_top.specs.declared.status.Status.TheVariants as code

told_by : {A : Type 0} (told : Option A) (P Q : A → Type 0) → ((a : A) → P a → Q a) → Told told P
    → Told told Q
told_by None P Q more p = tt
told_by (Some a) P Q more p = more a p

told_ever : {A : Type 0} (told : Option A) (P : A → Type 0) → ((a : A) → P a) → Told told P
told_ever None P is = tt
told_ever (Some a) P is = is a

-- a script that ended
pub replay_done :
    (result : Result Unit Fault) (clock left left_after before after : Option (List ℕ))
    (faults faults_after lost lost_after : ℕ)
    → Told left (Ends result left_after before after)
    → OnOk result (left_after ≡ option_map (λ _. []) left)
    → (IsErrOf result Usage → ⊥) → (IsErrOf result Input → Rose faults faults_after)
    → (IsErrOf result Output → Rose lost lost_after)
    → IsDone replay_promise (outcome result) (world clock left faults before lost)
    (world clock left_after faults_after after lost_after)
replay_done (Ok done) clock left left_after before after faults faults_after lost lost_after ends
    read known in_rose out_rose = record {
      now = 0;
      clock = refl;
      answered = λ _. ends;
      read = λ _. read;
      refused = λ is. absurd cc;
      stopped = λ is. absurd cc;
      failed = λ is. absurd cc;
      input_fault = λ is. absurd cc;
      part = λ is. absurd cc;
      output_fault = λ is. absurd cc;
      known = inl refl;
    }
replay_done (Err Output) clock left left_after before after faults faults_after lost lost_after ends
    read known in_rose out_rose = record {
      now = 0;
      clock = refl;
      answered = λ is. absurd cc;
      read = λ is. absurd cc;
      refused = λ is. absurd cc;
      stopped = λ is. absurd cc;
      failed = λ is. absurd cc;
      input_fault = λ is. absurd cc;
      part = λ _. ends;
      output_fault = λ _. out_rose refl;
      known = inr (inr (inr (inr refl)));
    }
replay_done (Err (BadLine number)) clock left left_after before after faults faults_after lost
    lost_after ends read known in_rose out_rose = record {
      now = 0;
      clock = refl;
      answered = λ is. absurd cc;
      read = λ is. absurd cc;
      refused =
          λ _. told_by left
          _ _ (λ input both. told_ever left_after _ (λ rest. (both.1.0, inr both.1.1, both.1.2)))
          ends;
      stopped = λ is. absurd cc;
      failed = λ is. absurd cc;
      input_fault = λ is. absurd cc;
      part = λ is. absurd cc;
      output_fault = λ is. absurd cc;
      known = inr (inl refl);
    }
replay_done (Err InputTooLong) clock left left_after before after faults faults_after lost
    lost_after ends read known in_rose out_rose = record {
      now = 0;
      clock = refl;
      answered = λ is. absurd cc;
      read = λ is. absurd cc;
      refused =
          λ _. told_by left
          _ _ (λ input both.
          told_by left_after _ _ (λ rest wrote. (wrote.0, inl (both.0, wrote.1), wrote.2)) both.1)
          ends;
      stopped = λ is. absurd cc;
      failed = λ is. absurd cc;
      input_fault = λ is. absurd cc;
      part = λ is. absurd cc;
      output_fault = λ is. absurd cc;
      known = inr (inl refl);
    }
replay_done (Err Input) clock left left_after before after faults faults_after lost lost_after ends
    read known in_rose out_rose = record {
      now = 0;
      clock = refl;
      answered = λ is. absurd cc;
      read = λ is. absurd cc;
      refused = λ is. absurd cc;
      stopped = λ is. absurd cc;
      failed = λ _. ends;
      input_fault = λ _. in_rose refl;
      part = λ is. absurd cc;
      output_fault = λ is. absurd cc;
      known = inr (inr (inr (inl refl)));
    }
replay_done (Err Memory) clock left left_after before after faults faults_after lost lost_after ends
    read known in_rose out_rose = record {
      now = 0;
      clock = refl;
      answered = λ is. absurd cc;
      read = λ is. absurd cc;
      refused = λ is. absurd cc;
      stopped = λ _. ends;
      failed = λ is. absurd cc;
      input_fault = λ is. absurd cc;
      part = λ is. absurd cc;
      output_fault = λ is. absurd cc;
      known = inr (inr (inl refl));
    }
replay_done (Err Usage) clock left left_after before after faults faults_after lost lost_after ends
    read known in_rose out_rose = absurd (known refl)

-- why a script ended
pub replay_cause : (fault : Fault) (left left_after before after : Option (List ℕ))
    → Told left (Ends (Err fault) left_after before after)
    → (fault ≡ Usage → ⊥) → Told left (IsCause fault (Some replay))
replay_cause Output left left_after before after ends known = told_ever left _ (λ _. tt)
replay_cause (BadLine number) left left_after before after ends known =
    told_by left _ _ (λ input both. (refl, both.0)) ends
replay_cause InputTooLong left left_after before after ends known =
    told_by left _ _ (λ input both. both.0) ends
replay_cause Input left left_after before after ends known = told_ever left _ (λ _. tt)
replay_cause Memory left left_after before after ends known = told_ever left _ (λ _. tt)
replay_cause Usage left left_after before after ends known = absurd (known refl)

-- `last` that found no answer
pub last_failed :
    (name : List ℕ) (time now : ℕ) (fault : Fault)
    (clock_before clock_after left left_after before : Option (List ℕ))
    (faults faults_after lost : ℕ) → Answers clock_before now clock_after
    → ((fault ≡ Input) ⊎ (fault ≡ InputTooLong) ⊎ (fault ≡ Memory))
    → (fault ≡ InputTooLong → Told left IsTooLong)
    → (fault ≡ Input → Rose faults faults_after)
    → IsDone (last_promise name time) (status_of fault) (world clock_before left faults before lost)
    (world clock_after left_after faults_after before lost)
last_failed name time now Input clock_before clock_after left left_after before faults faults_after
    lost clock one long rose = record {
      now = now;
      clock = clock;
      answered = λ is. absurd cc;
      read = λ is. absurd cc;
      refused = λ is. absurd cc;
      stopped = λ is. absurd cc;
      failed =
          λ _. told_ever left
          _ (λ input. told_ever left_after _ (λ rest. ([], refl, takes_nothing before)));
      input_fault = λ _. rose refl;
      part = λ is. absurd cc;
      output_fault = λ is. absurd cc;
      known = inr (inr (inr (inl refl)));
    }
last_failed name time now InputTooLong clock_before clock_after left left_after before faults
    faults_after lost clock one long rose = record {
      now = now;
      clock = clock;
      answered = λ is. absurd cc;
      read = λ is. absurd cc;
      refused =
          λ _. told_by left
          _ _ (λ input many.
          told_ever left_after _ (λ rest. ([], (many, refl), takes_nothing before)))
          (long refl);
      stopped = λ is. absurd cc;
      failed = λ is. absurd cc;
      input_fault = λ is. absurd cc;
      part = λ is. absurd cc;
      output_fault = λ is. absurd cc;
      known = inr (inl refl);
    }
last_failed name time now Memory clock_before clock_after left left_after before faults faults_after
    lost clock one long rose = record {
      now = now;
      clock = clock;
      answered = λ is. absurd cc;
      read = λ is. absurd cc;
      refused = λ is. absurd cc;
      stopped = λ _. told_ever left _ (λ input. ([], (input, refl), takes_nothing before));
      failed = λ is. absurd cc;
      input_fault = λ is. absurd cc;
      part = λ is. absurd cc;
      output_fault = λ is. absurd cc;
      known = inr (inr (inl refl));
    }
last_failed name time now Usage clock_before clock_after left left_after before faults faults_after
    lost clock one long rose = absurd (search rules)
last_failed name time now Output clock_before clock_after left left_after before faults faults_after
    lost clock one long rose = absurd (search rules)
last_failed name time now (BadLine number) clock_before clock_after left left_after before faults
    faults_after lost clock one long rose = absurd (search rules)

-- `last` whose answer was written in part
pub last_part :
    (name : List ℕ) (time now n : ℕ) (body : List ℕ)
    (clock_before clock_after left left_after before after : Option (List ℕ))
    (faults faults_after lost lost_after : ℕ) → Answers clock_before now clock_after
    → Told left IsShort
    → Told left (λ bytes. IsLastAnswer name time now bytes body) → n ≤ length body
    → Takes before (take n body) after → Rose lost lost_after
    → IsDone (last_promise name time) code.OutputFault (world clock_before left faults before lost)
    (world clock_after left_after faults_after after lost_after)
last_part name time now n body clock_before clock_after left left_after before after faults
    faults_after lost lost_after clock short is within written rose = record {
      now = now;
      clock = clock;
      answered = λ is. absurd cc;
      read = λ is. absurd cc;
      refused = λ is. absurd cc;
      stopped = λ is. absurd cc;
      failed = λ is. absurd cc;
      input_fault = λ is. absurd cc;
      part = λ _. go left short is;
      output_fault = λ _. rose;
      known = inr (inr (inr (inr refl)));
    }
  where
    go : (left : Option (List ℕ)) → Told left IsShort
        → Told left (λ bytes. IsLastAnswer name time now bytes body)
        → Told left (IsAnsweredInPart (last_promise name time) now before after)
    go None short is = tt
    go (Some input) short is =
        record { text = body; due = (short, is); part = n; within = within; written = written }

-- `last` whose answer was written
pub last_done :
    (name : List ℕ) (time now : ℕ) (body : List ℕ)
    (clock_before clock_after left left_after before after : Option (List ℕ))
    (faults faults_after lost lost_after : ℕ) → Answers clock_before now clock_after
    → Told left IsShort
    → Told left (λ bytes. IsLastAnswer name time now bytes body)
    → left_after ≡ option_map (λ _. []) left → Takes before body after
    → IsDone (last_promise name time) code.Ok (world clock_before left faults before lost)
    (world clock_after left_after faults_after after lost_after)
last_done name time now body clock_before clock_after left left_after before after faults
    faults_after lost lost_after clock short is read written = record {
      now = now;
      clock = clock;
      answered = λ _. go left short is;
      read = λ _. read;
      refused = λ is. absurd cc;
      stopped = λ is. absurd cc;
      failed = λ is. absurd cc;
      input_fault = λ is. absurd cc;
      part = λ is. absurd cc;
      output_fault = λ is. absurd cc;
      known = inl refl;
    }
  where
    go : (left : Option (List ℕ)) → Told left IsShort
        → Told left (λ bytes. IsLastAnswer name time now bytes body)
        → Told left (IsAnswered (last_promise name time) now before after)
    go None short is = tt
    go (Some input) short is =
        record { short = short; text = body; answers = is; written = written }

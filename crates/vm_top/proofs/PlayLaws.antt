-- A script that is played line by line.
use Rattle.std.proofs.Common.{◌≡◌, ℕ, ◌+◌, ◌≤◌, List, [], ◌∷◌, ◌++◌, length, length-append, append_assoc, append-nil, take, Option, Some, None, Ok, Err, true, false, arith, IsErrOf, refl, sym, ap, ◌∙◌, subst, inl, ◌⊎◌, rules}
use Rattle.std.proofs.lemmas.List.Concat.{flat_map-append}
use Rattle.std.proofs.Math.Seq.{take-append-add}
use Rattle.std.specs.Option.{option_map, unwrap_or}
use Rattle.std.specs.List.{AllByRecursion}
use Rattle.std.specs.Prelude.{nat_le}
use Rattle.std.proofs.lemmas.Bool.{lt-leb, ltb-true}
use Rattle.vm_lines.specs.Lines.{lines, is_too_long}
use Rattle.vm_lines.specs.Reading.{IsSpent}
use Rattle.vm_lines.specs.declared.step.Step.{Step}
use Rattle.vm_outside.specs.Outside.{Told, Takes}
use Rattle.vm_outside.proofs.Streams.{takes_more, takes_nothing}
use Rattle.vm_script.specs.Command.{command_of}
use Rattle.vm_top.specs.inner.Playing.{Through, Passes, PlaysLine, HasPlayed, IsBrokenBy, IsCutShort, BreaksOff, CanPlay, Ends}
use Rattle.vm_top.specs.inner.Reading.{Place, HasLine, GoesOver, StopsAt, unread, first_place}
use Rattle.vm_top.specs.Promise.{IsShort, IsTooLong}
use Rattle.vm_top.specs.Replay.{State, Plays, no_command, next_command, blank, Holds, IsOpen, IsPlayedSoFar, IsPlayedBefore, replay_promise}
use Rattle.vm_top.specs.Script.{Entry, IsEntry, IsCutOff, Breaks, entry_lines, lines_after, script_lines}
use Rattle.vm_top.specs.Statuses.{IsAnsweredInPart, Wrote}
use Rattle.vm_top.specs.declared.fault.Fault.{Fault}
use Rattle.vm_top.specs.declared.fault.Fault.TheVariants.{Usage, InputTooLong, BadLine, Input, Output, Memory}
use Rattle.vm_top.proofs.BodyLaws.{all_more}
use Rattle.vm_top.proofs.InputLaws.{unread_first}
use Rattle.vm_top.proofs.TakenLaws.{over_more, holds_at, part_at}

-- a line that is too long is no command
pub command_of_long : (line : List ℕ) → is_too_long line ≡ true → None ≡ command_of line
command_of_long line long =
    let above : nat_le (length line) 4194304 ≡ false =
    lt-leb (length line) 4194304 (ltb-true _ _ long) in
    rw above refl

-- lines that were passed one after the other

pub through_none : (left : Option (List ℕ)) → Through left [] left
through_none None = refl
through_none (Some bytes) = refl

pub through_more : (a b c : Option (List ℕ)) (xs ys : List (List ℕ)) → Through a xs b
    → Through b ys c → Through a (xs ++ ys) c
through_more a None None xs ys one two = one
through_more a None (Some z) xs ys one two = absurd cc
through_more a (Some y) None xs ys one two = absurd cc
through_more a (Some y) (Some z) xs ys one two =
    one ∙ ap (option_map (λ rest. xs ++ rest)) two ∙ ap Some (sym (append_assoc xs ys (lines z)))

pub passes_none : (place : Place) (left : Option (List ℕ)) → Passes [] place place left left
passes_none place left = record {
  through = through_none (unread place left);
  counted = omega arith;
  nearer = omega arith;
}

pub passes_more : (a b c : Place) (left_a left_b left_c : Option (List ℕ)) (xs ys : List (List ℕ))
    → Passes xs a b left_a left_b → Passes ys b c left_b left_c
    → Passes (xs ++ ys) a c left_a left_c
passes_more a b c left_a left_b left_c xs ys one two = record {
  through =
      through_more (unread a left_a) (unread b left_b) (unread c left_c) xs ys one.through
      two.through;
  counted = omega (arith, one.counted, two.counted, length-append xs ys);
  nearer = omega (arith, one.nearer, two.nearer);
}

pub passes_line : (step : Step) (a b : Place) (left_a left_b : Option (List ℕ))
    → (has : HasLine step a b left_a left_b)
    → Passes (has.line ∷ []) a b left_a left_b
passes_line step a b left_a left_b has = record {
  through = has.first;
  counted = has.counted;
  nearer = omega (arith, has.nearer);
}

-- what is told of the lines that are left, told of all
pub told_all :
    (start left : Option (List ℕ)) (passed : List (List ℕ)) (P : List ℕ → Type 0)
    (Q : List ℕ → Type 0) → Through start passed left
    → ((a b : List ℕ) → lines a ≡ passed ++ lines b → P b → Q a) → Told left P → Told start Q
told_all None left passed P Q through more is = tt
told_all (Some a) None passed P Q through more is = absurd cc
told_all (Some a) (Some b) passed P Q through more is =
    more a b (ap (λ held. unwrap_or held (lines a)) through) is

-- the lines of one command more
pub script_more : (entries : List Entry) (entry : Entry)
    → script_lines (entries ++ entry ∷ []) ≡ script_lines entries ++ entry_lines entry
script_more entries entry =
    flat_map-append entry_lines entries (entry ∷ [])
    ∙ ap (λ text. script_lines entries ++ text) (append-nil (entry_lines entry))

-- the entry of a line whose command was done
abbrev pub entry_of :
    (line : List ℕ) (before now : State) (at after : Place) (left_at left_after : Option (List ℕ))
    (text : List ℕ)
    → PlaysLine line before now at after left_at left_after text → Entry
entry_of line before now at after left_at left_after text plays =
    record { line = line; command = plays.command; body = plays.plays.body }

-- where a command more was done
pub record Next (machine : State) (place : Place) (start left : Option (List ℕ)) (texts : List ℕ)
    (entries : List Entry) : Type 0 where
  pub are : AllByRecursion IsEntry entries
  pub plays : Plays blank entries machine texts
  pub through : Through start (script_lines entries) (unread place left)
  pub counted : place.number ≡ length (script_lines entries)

pub next_entry :
    (step : Step) (old new : State) (p q r : Place)
    (start left_p left_q left_r before after : Option (List ℕ)) (text : List ℕ)
    → (played : HasPlayed old p start left_p before after) → (has : HasLine step p q left_p left_q)
    → (plays : PlaysLine has.line old new q r left_q left_r text)
    → Next new r start left_r (played.texts ++ text)
    (played.entries ++ entry_of has.line old new q r left_q left_r text plays ∷ [])
next_entry step old new p q r start left_p left_q left_r before after text played has plays =
    let entry = entry_of has.line old new q r left_q left_r text plays in
    let passes =
    passes_more p q r left_p left_q left_r (has.line ∷ [])
    (lines_after entry.command entry.body)
    (passes_line step p q left_p left_q has) plays.plays.passes in
    let more = script_more played.entries entry in
    record {
      are = all_more IsEntry played.entries entry played.are
          (record { says = plays.says; body = plays.plays.has });
      plays = next_command played.entries entry old new played.texts text played.plays
          plays.plays.does;
      through = subst (λ passed. Through start passed (unread r left_r)) (sym more)
          (through_more start (unread p left_p) (unread r left_r) (script_lines played.entries)
          (entry_lines entry) played.through passes.through);
      counted =
          omega (
            arith,
            played.counted,
            passes.counted,
            ap length more,
            length-append (script_lines played.entries) (entry_lines entry),
          );
    }

pub plays_more :
    (step : Step) (old new : State) (p q r : Place)
    (start left_p left_q left_r before mid after : Option (List ℕ)) (text : List ℕ)
    → (played : HasPlayed old p start left_p before mid) → (has : HasLine step p q left_p left_q)
    → PlaysLine has.line old new q r left_q left_r text → Takes mid text after
    → HasPlayed new r start left_r before after
plays_more step old new p q r start left_p left_q left_r before mid after text played has plays
    written =
    let next =
    next_entry step old new p q r start left_p left_q left_r before mid text played has plays in
    record {
      entries = played.entries ++ entry_of has.line old new q r left_q left_r text plays ∷ [];
      are = next.are;
      texts = played.texts ++ text;
      plays = next.plays;
      through = next.through;
      counted = next.counted;
      written = takes_more before mid after played.texts text played.written written;
    }

-- how a script ends

-- all lines were read
pub ends_whole : (machine : State) (p : Place) (start left before after : Option (List ℕ))
    → HasPlayed machine p start left before after
    → IsSpent (unread p left) → Told start IsShort → (left_after : Option (List ℕ))
    → Told start (Ends (Ok tt) left_after before after)
ends_whole machine p None left before after played spent short left_after = tt
ends_whole machine p (Some a) left before after played spent short left_after =
    go (unread p left) played.through spent
  where
    go : (rest : Option (List ℕ)) → Through (Some a) (script_lines played.entries) rest
        → IsSpent rest → Ends (Ok tt) left_after before after a
    go None through is = absurd cc
    go (Some b) through is =
        let empty : b ≡ [] = ap (λ held. unwrap_or held b) is in
        let all : lines a ≡ script_lines played.entries ++ lines b =
        ap (λ held. unwrap_or held (lines a)) through in
        record {
          short = short;
          text = played.texts;
          answers = (
            played.entries,
            record {
              are = played.are;
              lines_are = all ∙ ap (λ bytes. script_lines played.entries ++ lines bytes) empty
                  ∙ append-nil (script_lines played.entries);
            },
            (machine, played.plays),
          );
          written = played.written;
        }

-- commands were played, whole lines that are no whole command came after them, and then no more
-- whole line
wrote_so_far :
    (entries : List Entry) (machine : State) (texts : List ℕ) (more : List (List ℕ)) (p : Place)
    (start left left_after before after : Option (List ℕ))
    → AllByRecursion IsEntry entries → Plays blank entries machine texts → IsOpen more
    → GoesOver first_place p start left
    → Through start (script_lines entries ++ more) (unread p left)
    → StopsAt p left left_after → Takes before texts after
    → Told start (λ input. Told left_after (λ rest. Wrote (IsPlayedBefore rest) before after input))
wrote_so_far entries machine texts more p None left left_after before after are plays waiting over
    through stops written = tt
wrote_so_far entries machine texts more p (Some input) left None before after are plays waiting over
    through stops written = tt
wrote_so_far entries machine texts more p (Some input) None (Some rest) before after are plays
    waiting over through stops written =
    let no = over.gives in absurd cc
wrote_so_far entries machine texts more p (Some input) (Some bytes) (Some rest) before after are
    plays waiting over through stops written =
    let taken = holds_at p input bytes rest (script_lines entries ++ more) over through stops in
    let so_far : IsPlayedSoFar taken.taken texts = record {
      entries = entries;
      are = are;
      more = more;
      holds = taken.holds;
      waits = waiting;
      plays = (machine, plays);
    } in
    (texts, (taken.taken, taken.parts, so_far), written)

-- the input stopped before the next command
pub stopped_at :
    (machine : State) (p : Place) (start left left_after before after : Option (List ℕ))
    → HasPlayed machine p start left before after → GoesOver first_place p start left
    → StopsAt p left left_after
    → Told start (λ input. Told left_after (λ rest. Wrote (IsPlayedBefore rest) before after input))
stopped_at machine p start left left_after before after played over stops =
    wrote_so_far played.entries machine played.texts [] p start left left_after before after
    played.are played.plays tt over
    (subst (λ passed. Through start passed (unread p left))
    (sym (append-nil (script_lines played.entries))) played.through)
    stops played.written

-- the input stopped within the body of a command
pub stopped_within :
    (step : Step) (machine : State) (p q : Place)
    (start left_p left_q left_after before after : Option (List ℕ))
    → (played : HasPlayed machine p start left_p before after) → GoesOver first_place p start left_p
    → (has : HasLine step p q left_p left_q) → GoesOver p q left_p left_q
    → IsCutShort (command_of has.line) q left_q left_after
    → Told start (λ input. Told left_after (λ rest. Wrote (IsPlayedBefore rest) before after input))
stopped_within step machine p q start left_p left_q left_after before after played over has next
    cut =
    let script = script_lines played.entries in
    wrote_so_far played.entries machine played.texts (has.line ∷ cut.passed) cut.mid start
    cut.left_mid left_after before after
    played.are played.plays (cut.format, cut.time, cut.imports, cut.within)
    (over_more first_place q cut.mid start left_q cut.left_mid
    (over_more first_place p q start left_p left_q over next) cut.over)
    (subst (λ passed. Through start passed (unread cut.mid cut.left_mid))
    (append_assoc script (has.line ∷ []) cut.passed)
    (through_more start (unread q left_q) (unread cut.mid cut.left_mid) (script ++ has.line ∷ [])
    cut.passed
    (through_more start (unread p left_p) (unread q left_q) script (has.line ∷ []) played.through
    has.first) cut.through))
    cut.stops played.written

-- memory ran out at the next command
pub gave_up : (machine : State) (p : Place) (start left before after : Option (List ℕ))
    → HasPlayed machine p start left before after → GoesOver first_place p start left
    → p.reading.ended ≡ false
    → Told start
    (Wrote (λ whole text. (rest : List ℕ) × IsPlayedBefore rest whole text) before after)
gave_up machine p None left before after played over waits = tt
gave_up machine p (Some input) None before after played over unended = let no =
    over.gives in absurd cc
gave_up machine p (Some input) (Some bytes) before after played over unended =
    let taken = part_at p input bytes (script_lines played.entries) over played.through unended in
    let so_far : IsPlayedSoFar taken.taken played.texts = record {
      entries = played.entries;
      are = played.are;
      more = [];
      holds = subst (λ whole. Holds taken.taken whole)
          (sym (append-nil (script_lines played.entries))) taken.holds;
      waits = tt;
      plays = (machine, played.plays);
    } in
    (played.texts, (p.reading.ahead ++ bytes, (taken.taken, taken.parts, so_far)), played.written)

-- a line is outside the grammar
pub ends_bad :
    (step : Step) (machine : State) (p q : Place)
    (start left_p left_q left_after before after : Option (List ℕ)) (number : ℕ)
    → (played : HasPlayed machine p start left_p before after)
    → (has : HasLine step p q left_p left_q)
    → IsBrokenBy (BadLine number) (command_of has.line) q left_q
    → Told start (Ends (Err (BadLine number)) left_after before after)
ends_bad step machine p q start left_p left_q left_after before after number played has broken =
    told_all start (unread q left_q) (script_lines played.entries ++ has.line ∷ [])
    (λ b. IsCutOff (command_of has.line) (lines b)) _
    (through_more start (unread p left_p) (unread q left_q) (script_lines played.entries)
    (has.line ∷ []) played.through has.first)
    (λ a b is cut.
    let breaks : Breaks (lines a) played.entries = record {
      are = played.are;
      line = has.line;
      more = lines b;
      lines_are = is ∙ append_assoc (script_lines played.entries) (has.line ∷ []) (lines b);
      broken = cut;
    } in (
      (played.entries, breaks, omega (arith, broken.0, has.counted, played.counted)),
      (played.texts, (played.entries, breaks, (machine, played.plays)), played.written),
    ))
    broken.1

-- the output failed within what a command prints
pub ends_part :
    (step : Step) (old new : State) (p q r : Place)
    (start left_p left_q left_r before mid after : Option (List ℕ)) (text : List ℕ) (n : ℕ)
    → (played : HasPlayed old p start left_p before mid) → (has : HasLine step p q left_p left_q)
    → PlaysLine has.line old new q r left_q left_r text → n ≤ length text
    → Takes mid (take n text) after
    → Told start (IsAnsweredInPart replay_promise 0 before after)
ends_part step old new p q r start left_p left_q left_r before mid after text n played has plays
    within written =
    let entry = entry_of has.line old new q r left_q left_r text plays in
    let next =
    next_entry step old new p q r start left_p left_q left_r before mid text played has plays in
    let entries = played.entries ++ entry ∷ [] in
    told_all start (unread r left_r) (script_lines entries) (λ _. Unit {0}) _ next.through
    (λ a b is _. record {
      text = played.texts ++ text;
      due = (entries, record { are = next.are; more = lines b; lines_are = is }, (new, next.plays));
      part = length played.texts + n;
      within = omega (arith, within, length-append played.texts text);
      written =
          subst (λ piece. Takes before piece after) (sym (take-append-add played.texts text n))
          (takes_more before mid after played.texts (take n text) played.written written);
    })
    (told_any (unread r left_r))
  where
    told_any : (held : Option (List ℕ)) → Told held (λ _. Unit {0})
    told_any None = tt
    told_any (Some b) = tt

-- nothing was played yet
pub plays_none : (place : Place) (left before : Option (List ℕ)) → place ≡ first_place
    → HasPlayed blank place left left before before
plays_none place left before is = record {
  entries = [];
  are = tt;
  texts = [];
  plays = no_command;
  through =
      subst (λ rest. Through left [] rest)
      (sym (unread_first left) ∙ ap (λ p. unread p left) (sym is)) (through_none left);
  counted = ap (λ p. p.number) is;
  written = takes_nothing before;
}

-- memory ran out before anything was read
pub stopped_none : (start before : Option (List ℕ))
    → Told start
    (Wrote (λ whole text. (rest : List ℕ) × IsPlayedBefore rest whole text) before before)
stopped_none None before = tt
stopped_none (Some input) before =
    let holds : Holds [] [] =
    record {
      front = [];
      tail = [];
      parts = refl;
      ends = inl refl;
      clear = tt;
      lines_are = refl;
    } in
    let so_far : IsPlayedSoFar [] [] = record {
      entries = [];
      are = tt;
      more = [];
      holds = holds;
      waits = tt;
      plays = (blank, no_command);
    } in
    ([], (input, ([], refl, so_far)), takes_nothing before)

-- an input that is too long
long_at : (start left_after before after : Option (List ℕ)) → Told start IsTooLong
    → Told start (λ input. Told left_after (λ rest. Wrote (IsPlayedBefore rest) before after input))
    → Told start (Ends (Err InputTooLong) left_after before after)
long_at None left_after before after many wrote = tt
long_at (Some input) left_after before after many wrote = (many, wrote)

-- a stop before the next command
pub ends_failed :
    {A : Type 0} (fault : Fault) (machine : State) (p : Place)
    (start left left_after before after : Option (List ℕ))
    → HasPlayed machine p start left before after → GoesOver first_place p start left
    → StopsAt p left left_after
    → (IsErrOf {T = A} (Err fault) Input ⊎ IsErrOf {T = A} (Err fault) InputTooLong
    ⊎ IsErrOf {T = A} (Err fault) Memory)
    → (IsErrOf {T = A} (Err fault) InputTooLong → Told start IsTooLong)
    → Told start (Ends (Err fault) left_after before after)
ends_failed Input machine p start left left_after before after played over stops one long =
    stopped_at machine p start left left_after before after played over stops
ends_failed Memory machine p start left left_after before after played over stops one long =
    gave_up machine p start left before after played over stops.unended
ends_failed InputTooLong machine p start left left_after before after played over stops one long =
    long_at start left_after before after (long refl)
    (stopped_at machine p start left left_after before after played over stops)
ends_failed Usage machine p start left left_after before after played over stops one long =
    absurd (search rules)
ends_failed Output machine p start left left_after before after played over stops one long =
    absurd (search rules)
ends_failed (BadLine number) machine p start left left_after before after played over stops one
    long = absurd (search rules)

-- a command that failed
pub ends_failed_line : {A : Type 0} (fault : Fault) (step : Step) (machine : State) (p q : Place)
    (start left_p left_q left_after before after : Option (List ℕ))
    → (played : HasPlayed machine p start left_p before after) → GoesOver first_place p start left_p
    → (has : HasLine step p q left_p left_q) → GoesOver p q left_p left_q
    → IsBrokenBy fault (command_of has.line) q left_q
    → BreaksOff fault (command_of has.line) q left_q left_after
    → CanPlay fault → (IsErrOf {T = A} (Err fault) InputTooLong → Told start IsTooLong)
    → Told start (Ends (Err fault) left_after before after)
ends_failed_line Input step machine p q start left_p left_q left_after before after played over has
    next broken breaks can long =
    stopped_within step machine p q start left_p left_q left_after before after played over has next
    breaks
ends_failed_line Memory step machine p q start left_p left_q left_after before after played over has
    next broken breaks can long =
    gave_up machine p start left_p before after played over has.unended
ends_failed_line InputTooLong step machine p q start left_p left_q left_after before after played
    over has next broken breaks can long =
    long_at start left_after before after (long refl)
    (stopped_within step machine p q start left_p left_q left_after before after played over has
    next breaks)
ends_failed_line (BadLine number) step machine p q start left_p left_q left_after before after
    played over has next broken breaks can long =
    ends_bad step machine p q start left_p left_q left_after before after number played has broken
ends_failed_line Usage step machine p q start left_p left_q left_after before after played over has
    next broken breaks can long = absurd can
ends_failed_line Output step machine p q start left_p left_q left_after before after played over has
    next broken breaks can long = absurd can

-- The steps of a walk.
use Rattle.std.proofs.Common.{◌≡◌, ◌≢◌, ◌⊎◌, inl, inr, ⊎_elim, ℕ, ◌+◌, ◌-◌, ◌<◌, ◌≤◌, ◌^◌, Bool, true, false, Option, None, Some, IfSome, IfNone, IfOk, OnErr, Result, Ok, Err, IsErr, List, [], ◌∷◌, ◌++◌, length, take, drop, get_or, All, refl, sym, ap, ◌∙◌, subst, arith, append_assoc, append-nil, take-append-drop}
use Rattle.std.specs.List.{Contains, flat_map}
use Rattle.std.specs.Io.KnownBytes.{IsAtEnd}
use Rattle.std.specs.Option.{is_some}
use Rattle.std.proofs.lemmas.List.{length-append, length-drop, length-map, length-take-le, length_push, nil_from_length, take_more}
use Rattle.std.proofs.lemmas.List.Elements.{All-contains, All-nil, All-push, Contains-push}
use Rattle.fg_io.specs.InputBuffer.{InputState, TakesMore, new_input}
use Rattle.fg_io.specs.declared.fault.Fault.{Fault}
use Rattle.fg_io.specs.Sink.{Gains, GainsPart}
use Rattle.fg_io.proofs.SentLemmas.{Sent-cut, Sent-whole}
use Rattle.fg_io.specs.Source.{Gives}
use Rattle.fg_io.proofs.SourceLemmas.{Gives-nil, Gives-trans}
use Rattle.fg_proof.specs.declared.case.Case.{Case}
use Rattle.fg_proof.specs.declared.judging.Answer.{Answer}
use Rattle.fg_proof.specs.Judgement.{IsAnswer}
use Rattle.fg_proof.specs.Text.{Line, IsWritable, line_limit, line_text, lines_of}
use Rattle.fg_check.specs.declared.gathering.Taken.TheVariants as taken
use Rattle.fg_check.specs.declared.walk.Checked.{Checked}
use Rattle.fg_check.specs.declared.walk.Checked.TheVariants as told
use Rattle.fg_check.specs.declared.walk.Passed.{Passed}
use Rattle.fg_check.specs.declared.walk.Passed.TheVariants as passed
use Rattle.fg_check.specs.declared.walk.Walk.{Walk}
use Rattle.fg_check.specs.declared.lines.Lines.{Lines}
use Rattle.fg_check.specs.Checked.{CheckEnding, Whole, NotCase, TooLong, Checks, ChecksPart, IsChecked, LeavesNothing, Tells, TellsExactly}
use Rattle.fg_check.specs.Laws.{OneCheck, OneListOfAnswers, OneText}
use Rattle.fg_check.specs.Line.{IsFirstPlace, IsLine}
use Rattle.fg_check.specs.Reading.{HasLine, ReachesForCheck, answer_of}
use Rattle.fg_check.specs.Split.{Fit, ended}
use Rattle.fg_check.specs.Steps.{Breaks, HasPassed, HasTold, HasWalked, IsBehind, IsBuffer, IsReadTo, IsUnderway, PassedBehind, Stands, TakesText, front_if, front_of, stepped}
use Rattle.fg_check.specs.Text.{AreAnswers, IsVerdicts, verdict_line, verdicts_from}
use Rattle.fg_check.proofs.Cuts.{cut_there, lacks_append, lacks_nil, lacks_take}
use Rattle.fg_check.proofs.Grammar.{lines_count, unfit}
use Rattle.fg_check.proofs.Spelling.{line_short}
use Rattle.fg_check.proofs.Splits.{Lack, ended_push, few_lines}
use Rattle.fg_check.proofs.Telling.{nothing_told, part_at_line, part_told}
use Rattle.fg_check.proofs.Walking.{breaks, buffer_step, behind_step, behind_told, early_here, line_read, long_here, nothing_left, open_here, read_for, unfit_here, whole_here}

-- The start

begun : (max : ℕ) (first : Option (List ℕ)) → IsBehind first (ended []) (new_input max 46 65536) first
begun max first = record { gave = Gives-nil first; place = refl; at_end = λ over. absurd (let no = over in cc) }

pub underway : (max : ℕ) (walk : Walk) (first before : Option (List ℕ)) → max ≤ 2 ^ 40 → walk.input ≡ new_input max 46 65536 → walk.max ≡ max → walk.number ≡ 0 → walk.opened ≡ None
    → walk.lines.held ≡ [] → walk.lines.cases ≡ 0 → walk.lines.unproved ≡ None → IsUnderway first first walk before before
underway max walk first before limit new same none closed held cases unproved =
    let buffer : IsBuffer (new_input max 46 65536) = record { longest_is = refl; small = omega arith; limit = limit; within = omega arith; bounded = omega arith } in
    record {
      lines = [];
      cases = [];
      behind = subst (λ (t : InputState). IsBehind first (ended []) t first) (sym new) (begun max first);
      buffer = subst IsBuffer (sym new) buffer;
      limit = same ∙ sym (ap (λ (t : InputState). t.max) new);
      lack = All-nil Lack;
      count = none;
      stands = subst (λ (o : Option Case). Stands [] [] o) (sym closed) (record { writable = All-nil IsWritable; endable = tt; are = refl });
      told = nothing_told walk.lines before held cases unproved;
    }

-- Reading

pub behind_fill : (input now : InputState) (first left rest : Option (List ℕ)) (front : List ℕ)
    → (let more : InputState = record input { held = now.held; ended = now.ended } in now ≡ more)
    → TakesMore input.held left now.held rest → (input.ended ≡ true → rest ≡ left) → (now.ended ≡ true → (input.ended ≡ true) ⊎ IsAtEnd rest)
    → IsBehind first front input left → IsBehind first front now rest
behind_fill input now first left rest front same takes stays end h = record {
  gave = subst (λ (t : List ℕ). Gives first t rest) (append_assoc front input.held takes.given ∙ ap (λ (t : List ℕ). front ++ t) (sym takes.grown))
      (Gives-trans first left rest (front ++ input.held) takes.given h.gave takes.gives);
  place = ap (λ (t : InputState). t.place) same ∙ h.place;
  at_end = λ over.
      ⊎_elim (λ (was : input.ended ≡ true). subst IsAtEnd (sym (stays was)) (h.at_end was)) (λ (now_end : IsAtEnd rest). now_end) (end over);
}

pub behind_none : (first now : Option (List ℕ)) (front : List ℕ) (input : InputState) → IsBehind first front input now → IsBehind first (front ++ []) input now
behind_none first now front input h = subst (λ (t : List ℕ). IsBehind first t input now) (sym (append-nil front)) h

-- one more byte after the first place of it
with_feed : (held : List ℕ) (count : ℕ) → IsFirstPlace 10 held count → take (count + 1) held ≡ take count held ++ 10 ∷ []
with_feed held count h = take_more held count 0 h.within ∙ ap (λ (b : ℕ). take count held ++ b ∷ []) h.here

-- a line that ends in what is held
pub passed_line : (first now : Option (List ℕ)) (front line : List ℕ) (input after : InputState) (count : ℕ) → ¬ Contains line 10 → IsFirstPlace 10 input.held count
    → after ≡ stepped input (count + 1) → IsBehind first (front ++ line) input now → HasPassed first front line passed.Line after now
passed_line first now front line input after count lacks at step h =
    let within = at.within in
    let moved : (front ++ line) ++ take (count + 1) input.held ≡ front ++ ((line ++ take count input.held) ++ 10 ∷ []) =
    ap (λ (t : List ℕ). (front ++ line) ++ t) (with_feed input.held count at) ∙ append_assoc front line (take count input.held ++ 10 ∷ [])
    ∙ ap (λ (t : List ℕ). front ++ t) (sym (append_assoc line (take count input.held) (10 ∷ []))) in
    record {
      more = take count input.held;
      lacks = lacks_append 10 line (take count input.held) lacks at.first;
      ends = subst (λ (t : InputState). IsBehind first (front ++ ((line ++ take count input.held) ++ 10 ∷ [])) t now) (sym step)
          (subst (λ (t : List ℕ). IsBehind first t (stepped input (count + 1)) now) moved (behind_step first now (front ++ line) input (count + 1) (omega (arith, within)) h));
    }

-- and one that ends here
pub passed_here : (first now : Option (List ℕ)) (front line : List ℕ) (how : Passed) (input : InputState) → ¬ Contains line 10 → PassedBehind first front how line input now
    → HasPassed first front line how input now
passed_here first now front line how input lacks h =
    let P : List ℕ → Type 0 = λ (t : List ℕ). PassedBehind first front how t input now in
    record {
      more = [];
      lacks = subst (λ (t : List ℕ). ¬ Contains t 10) (sym (append-nil line)) lacks;
      ends = subst P (sym (append-nil line)) h;
    }

-- more of a line was passed over
pub passed_more : (first now : Option (List ℕ)) (front line more : List ℕ) (how : Passed) (input : InputState) → HasPassed first front (line ++ more) how input now → HasPassed first front line how input now
passed_more first now front line more how input h =
    let P : List ℕ → Type 0 = λ (t : List ℕ). PassedBehind first front how t input now in
    let moved : (line ++ more) ++ h.more ≡ line ++ (more ++ h.more) = append_assoc line more h.more in
    record {
      more = more ++ h.more;
      lacks = subst (λ (t : List ℕ). ¬ Contains t 10) moved h.lacks;
      ends = subst P moved h.ends;
    }

pub behind_more : (first now : Option (List ℕ)) (front more after : List ℕ) (input : InputState) → IsBehind first ((front ++ more) ++ after) input now → IsBehind first (front ++ (more ++ after)) input now
behind_more first now front more after input h = subst (λ (t : List ℕ). IsBehind first t input now) (append_assoc front more after) h

-- where what is held was passed over, in one way or another
pub behind_held : (first now : Option (List ℕ)) (front : List ℕ) (input after : InputState) (end : Option Passed)
    → IfSome end (λ how. (how ≡ passed.Line) × ((count : ℕ) × IsFirstPlace 10 input.held count × (input.place + count + 1 ≤ input.max) × (after ≡ stepped input (count + 1))))
    → IfNone end ((count : ℕ) × (1 ≤ count) × (count ≤ length input.held) × (input.place + count ≤ input.max) × (¬ Contains (take count input.held) 10) × (after ≡ stepped input count))
    → IsBehind first front input now → (more : List ℕ) × IsBehind first (front ++ more) after now
behind_held first now front input after None some none h =
    (take none.0 input.held, subst (λ (t : InputState). IsBehind first (front ++ take none.0 input.held) t now) (sym none.5) (behind_step first now front input none.0 none.2 h))
behind_held first now front input after (Some how) some none h =
    let n : ℕ = some.1.0 + 1 in
    let at = some.1.1 in
    let within = at.within in
    (take n input.held, subst (λ (t : InputState). IsBehind first (front ++ take n input.held) t now) (sym some.1.3) (behind_step first now front input n (omega (arith, within)) h))

-- A buffer that was filled while a walk is underway

pub refilled : (walk : Walk) (input : InputState) (first left now before after : Option (List ℕ)) → (h : IsUnderway first left walk before after) → IsBehind first (ended h.lines) input now → IsBuffer input
    → input.max ≡ walk.input.max → IsUnderway first now (record walk { input = input }) before after
refilled walk input first left now before after h behind buffer same = record {
  lines = h.lines;
  cases = h.cases;
  behind = behind;
  buffer = buffer;
  limit = h.limit ∙ sym same;
  lack = h.lack;
  count = h.count;
  stands = h.stands;
  told = h.told;
}

-- What is told

-- of an input that tells its bytes
of_all : (first now : Option (List ℕ)) (front : List ℕ) (input : InputState) (P : List ℕ → Type 0) → IsBehind first front input now
    → ((bytes rest : List ℕ) → now ≡ Some rest → bytes ≡ (front ++ input.held) ++ rest → P bytes) → IfSome first P
of_all None now front input P h each = tt
of_all (Some bytes) now front input P h each = let told = behind_told bytes front input now h in each bytes told.0 told.1 told.2

-- all was given, and nothing is held
all_given : (first now : Option (List ℕ)) (front bytes rest : List ℕ) (input : InputState) → IsBehind first front input now → input.ended ≡ true → input.held ≡ []
    → now ≡ Some rest → bytes ≡ (front ++ input.held) ++ rest → bytes ≡ front
all_given first now front bytes rest input h end none left is =
    let nothing = nothing_left now rest (h.at_end end) left in
    is ∙ ap (λ (t : List ℕ). (front ++ t) ++ rest) none ∙ ap (λ (t : List ℕ). (front ++ []) ++ t) nothing ∙ append-nil (front ++ []) ∙ append-nil front

pub walked_whole : (checked : Checked) (walk : Walk) (first now before after : Option (List ℕ)) → (h : IsUnderway first now walk before after) → walk.opened ≡ None
    → walk.input.held ≡ [] → walk.input.ended ≡ true → Tells checked Whole h.told.answers → ((read rest : List ℕ) → rest ≡ [] → ReachesForCheck walk.max checked read rest)
    → HasWalked first now checked walk before after
walked_whole checked walk first now before after h closed none end tells reaches =
    let front = ended h.lines in
    let within = h.buffer.within in
    let place = h.behind.place in
    let limit = h.limit in
    let stands : Stands h.lines h.cases None = subst (λ (o : Option Case). Stands h.lines h.cases o) closed h.stands in
    record {
      cases = h.cases;
      ending = Whole;
      of_input = of_all first now front walk.input (λ bytes. IsChecked walk.max bytes h.cases Whole) h.behind
          (λ bytes rest left is. whole_here walk.max bytes h.lines h.cases (all_given first now front bytes rest walk.input h.behind end none left is) (omega (arith, within, place, limit)) stands);
      read = read_for walk.max (Some checked) first now front walk.input h.limit h.buffer h.behind (λ rest left. reaches (front ++ walk.input.held) rest (nothing_left now rest (h.behind.at_end end) left));
      at_end = λ _. h.behind.at_end end;
      told = h.told;
      tells = tells;
    }

pub walked_open : (n : ℕ) (case : Case) (walk : Walk) (first now before after : Option (List ℕ)) → (h : IsUnderway first now walk before after) → walk.opened ≡ Some case
    → walk.input.held ≡ [] → walk.input.ended ≡ true → n + 1 ≡ length h.lines → HasWalked first now (told.NotCase n) walk before after
walked_open n case walk first now before after h opened none end last =
    let front = ended h.lines in
    let within = h.buffer.within in
    let place = h.behind.place in
    let limit = h.limit in
    let stands : Stands h.lines h.cases (Some case) = subst (λ (o : Option Case). Stands h.lines h.cases o) opened h.stands in
    record {
      cases = h.cases;
      ending = NotCase n;
      of_input = of_all first now front walk.input (λ bytes. IsChecked walk.max bytes h.cases (NotCase n)) h.behind
          (λ bytes rest left is.
          open_here walk.max bytes h.lines h.cases case n (all_given first now front bytes rest walk.input h.behind end none left is) (omega (arith, within, place, limit)) last h.lack stands);
      read = read_for walk.max (Some (told.NotCase n)) first now front walk.input h.limit h.buffer h.behind (λ rest left. inr (nothing_left now rest (h.behind.at_end end) left));
      at_end = λ no. absurd no;
      told = h.told;
      tells = refl;
    }

-- behind lines, and then these bytes of a line
pub walked_early : (rest : List ℕ) (walk : Walk) (input : InputState) (first now left before after : Option (List ℕ)) → (h : IsUnderway first left walk before after)
    → input.max ≡ walk.input.max → IsBuffer input → (front : List ℕ) → front ++ input.held ≡ ended h.lines ++ rest → IsBehind first front input now → input.ended ≡ true
    → length (ended h.lines) + length rest ≤ walk.max → 1 ≤ length rest → ¬ Contains rest 10
    → HasWalked first now (told.NotCase walk.number) (record walk { input = input }) before after
walked_early rest walk input first now left before after h same buffer front is behind end fits some lacks =
    let number : length h.lines ≡ walk.number = sym h.count in
    let at : (bytes more : List ℕ) → now ≡ Some more → bytes ≡ (front ++ input.held) ++ more → IsChecked walk.max bytes h.cases (NotCase walk.number) =
    λ (bytes : List ℕ) (more : List ℕ) (left_is : now ≡ Some more) (all : bytes ≡ (front ++ input.held) ++ more).
    let nothing = nothing_left now more (behind.at_end end) left_is in
    subst (λ n. IsChecked walk.max bytes h.cases (NotCase n)) number
    (early_here walk.max bytes rest h.lines h.cases walk.opened (all ∙ ap (λ (t : List ℕ). (front ++ input.held) ++ t) nothing ∙ append-nil (front ++ input.held) ∙ is) fits some h.lack lacks h.stands) in
    record {
      cases = h.cases;
      ending = NotCase walk.number;
      of_input = of_all first now front input (λ bytes. IsChecked walk.max bytes h.cases (NotCase walk.number)) behind at;
      read = read_for walk.max (Some (told.NotCase walk.number)) first now front input (h.limit ∙ sym same) buffer behind (λ more left_is. inr (nothing_left now more (behind.at_end end) left_is));
      at_end = λ no. absurd no;
      told = h.told;
      tells = refl;
    }

pub walked_long : (rest tail : List ℕ) (n : ℕ) (walk : Walk) (input : InputState) (first now left before after : Option (List ℕ)) → (h : IsUnderway first left walk before after)
    → input.max ≡ walk.input.max → IsBuffer input → (front : List ℕ) → front ++ input.held ≡ ended h.lines ++ (rest ++ tail) → IsBehind first front input now
    → length (ended h.lines) + length rest ≡ walk.max → 1 ≤ length tail → n ≡ length (ended h.lines) → ¬ Contains rest 10
    → HasWalked first now (told.TooLong n) (record walk { input = input }) before after
walked_long rest tail n walk input first now left before after h same buffer front is behind fits some place lacks =
    let at : (bytes more : List ℕ) → now ≡ Some more → bytes ≡ (front ++ input.held) ++ more → IsChecked walk.max bytes h.cases (TooLong n) =
    λ (bytes : List ℕ) (more : List ℕ) (left_is : now ≡ Some more) (all : bytes ≡ (front ++ input.held) ++ more).
    let whole : bytes ≡ ended h.lines ++ (rest ++ (tail ++ more)) =
    all ∙ ap (λ (t : List ℕ). t ++ more) is ∙ append_assoc (ended h.lines) (rest ++ tail) more ∙ ap (λ (t : List ℕ). ended h.lines ++ t) (append_assoc rest tail more) in
    long_here walk.max bytes rest (tail ++ more) h.lines h.cases walk.opened n whole fits (omega (arith, length-append tail more, some)) place h.lack lacks h.stands in
    record {
      cases = h.cases;
      ending = TooLong n;
      of_input = of_all first now front input (λ bytes. IsChecked walk.max bytes h.cases (TooLong n)) behind at;
      read = read_for walk.max (Some (told.TooLong n)) first now front input (h.limit ∙ sym same) buffer behind
          (λ more left_is. omega (arith, ap (λ (t : List ℕ). length t) is, length-append (ended h.lines) (rest ++ tail), length-append rest tail, fits, some));
      at_end = λ no. absurd no;
      told = h.told;
      tells = refl;
    }

pub walked_unfit : (text tail : List ℕ) (walk new : Walk) (first now left before after : Option (List ℕ)) → (h : IsUnderway first left walk before after)
    → new.max ≡ walk.max → new.lines ≡ walk.lines → new.input.max ≡ walk.input.max → IsBuffer new.input → (front : List ℕ)
    → front ++ new.input.held ≡ ended h.lines ++ (text ++ 10 ∷ tail) → IsBehind first front new.input now
    → length (ended h.lines) + length text + 1 ≤ walk.max → ¬ Contains text 10 → ¬ Fit (h.lines ++ text ∷ [])
    → HasWalked first now (told.NotCase walk.number) new before after
walked_unfit text tail walk new first now left before after h max told_same same buffer front is behind fits lacks unfit =
    let number : length h.lines ≡ walk.number = sym h.count in
    let at : (bytes more : List ℕ) → now ≡ Some more → bytes ≡ (front ++ new.input.held) ++ more → IsChecked new.max bytes h.cases (NotCase walk.number) =
    λ (bytes : List ℕ) (more : List ℕ) (left_is : now ≡ Some more) (all : bytes ≡ (front ++ new.input.held) ++ more).
    let whole : bytes ≡ ended h.lines ++ (text ++ 10 ∷ (tail ++ more)) =
    all ∙ ap (λ (t : List ℕ). t ++ more) is ∙ append_assoc (ended h.lines) (text ++ 10 ∷ tail) more ∙ ap (λ (t : List ℕ). ended h.lines ++ t) (append_assoc text (10 ∷ tail) more) in
    subst (λ n. IsChecked new.max bytes h.cases (NotCase n)) number
    (unfit_here new.max bytes text (tail ++ more) h.lines h.cases walk.opened whole (omega (arith, fits, max)) h.lack lacks h.stands unfit) in
    record {
      cases = h.cases;
      ending = NotCase walk.number;
      of_input = of_all first now front new.input (λ bytes. IsChecked new.max bytes h.cases (NotCase walk.number)) behind at;
      read = read_for new.max (Some (told.NotCase walk.number)) first now front new.input (max ∙ h.limit ∙ sym same) buffer behind
          (λ more left_is. inl (subst (λ n. HasLine (front ++ new.input.held) n) number (line_read (front ++ new.input.held) text tail h.lines is h.lack lacks)));
      at_end = λ no. absurd no;
      told = subst (λ (l : Lines). HasTold h.cases l before after) (sym told_same) h.told;
      tells = refl;
    }

-- the limit is reached, and a byte past it is held
pub at_limit : (input now : InputState) → (let more : InputState = record input { held = now.held; ended = now.ended } in now ≡ more) → IsBuffer input
    → (now.max < now.place + 1) × (now.max < now.place + length now.held) → (now.place ≡ now.max) × (1 ≤ length now.held)
at_limit input now same buffer past =
    let max = ap (λ (t : InputState). t.max) same in
    let place = ap (λ (t : InputState). t.place) same in
    let within = buffer.within in
    let there : now.place ≡ now.max = omega (arith, max, place, within, past.0) in
    (there, omega (arith, there, past.1))

-- what is held has no line feed within the limit, and was passed over
pub passed_none : (input after : InputState) (end : Option Passed) → IfNone end ((count : ℕ) × (1 ≤ count) × (count ≤ length input.held) × (input.place + count ≤ input.max) × (¬ Contains (take count input.held) 10) × (after ≡ stepped input count))
    → (P : Type 0) → ((count : ℕ) → count ≤ length input.held → ¬ Contains (take count input.held) 10 → after ≡ stepped input count → P) → IfNone end P
passed_none input after None h P each = each h.0 h.2 h.4 h.5
passed_none input after (Some how) h P each = tt

pub passed_some : (input after : InputState) (end : Option Passed)
    → IfSome end (λ how. (how ≡ passed.Line) × ((count : ℕ) × IsFirstPlace 10 input.held count × (input.place + count + 1 ≤ input.max) × (after ≡ stepped input (count + 1))))
    → (P : Passed → Type 0) → ((count : ℕ) → IsFirstPlace 10 input.held count → after ≡ stepped input (count + 1) → P passed.Line) → IfSome end P
passed_some input after None h P each = tt
passed_some input after (Some how) h P each = subst P (sym h.0) (each h.1.0 h.1.1 h.1.3)

-- The end

some_lines : (lines : List (List ℕ)) (cases : List Case) (case : Case) → Stands lines cases (Some case) → 1 ≤ length lines
some_lines lines cases case h =
    omega (arith, ap (λ (l : List (List ℕ)). length l) h.are, length-map (flat_map lines_of cases ++ front_of case) line_text, length-append (flat_map lines_of cases) (front_of case))

told_if : (opened : Option Case) (walk : Walk) (first now before after : Option (List ℕ)) → IsUnderway first now walk before after → walk.opened ≡ opened → is_some opened ≡ true
    → walk.input.held ≡ [] → walk.input.ended ≡ true → HasWalked first now (told.NotCase (walk.number - 1)) walk before after
told_if None walk first now before after h opened some none end = absurd (let no = some in cc)
told_if (Some case) walk first now before after h opened some none end =
    let more = some_lines h.lines h.cases case (subst (λ (o : Option Case). Stands h.lines h.cases o) opened h.stands) in
    let count = h.count in
    walked_open (walk.number - 1) case walk first now before after h opened none end (omega (arith, more, count))

pub told_open : (walk : Walk) (first now before after : Option (List ℕ)) → IsUnderway first now walk before after → is_some walk.opened ≡ true
    → (walk.input.held ≡ []) × (walk.input.ended ≡ true) → HasWalked first now (told.NotCase (walk.number - 1)) walk before after
told_open walk first now before after h some end = told_if walk.opened walk first now before after h refl some end.0 end.1

pub none_open : (opened : Option Case) → is_some opened ≡ false → opened ≡ None
none_open None none = refl
none_open (Some case) none = absurd (let no = none in cc)

pub told_whole : (checked : Checked) (walk : Walk) (first now before after : Option (List ℕ)) → (h : IsUnderway first now walk before after) → is_some walk.opened ≡ false
    → (walk.input.held ≡ []) × (walk.input.ended ≡ true) → Tells checked Whole h.told.answers → ((read rest : List ℕ) → rest ≡ [] → ReachesForCheck walk.max checked read rest)
    → HasWalked first now checked walk before after
told_whole checked walk first now before after h none end tells reaches =
    walked_whole checked walk first now before after h (none_open walk.opened none) end.0 end.1 tells reaches

-- A line

-- there are few of them, and few cases
pub few_taken : (walk : Walk) (first now before after : Option (List ℕ)) (count : ℕ) → IsUnderway first now walk before after → walk.input.place + count + 1 ≤ walk.input.max → walk.number < 2 ^ 40
few_taken walk first now before after count h within =
    let fewer = few_lines h.lines in
    let place = h.behind.place in
    let number = h.count in
    let limit = h.buffer.limit in
    omega (arith, fewer, place, number, limit, within)

cases_lines : (cases : List Case) → length cases ≤ length (flat_map lines_of cases)
cases_lines [] = omega arith
cases_lines (case ∷ cases) =
    let fewer = cases_lines cases in omega (arith, fewer, length-append (lines_of case) (flat_map lines_of cases), lines_count case)

same_count : (cases : List Case) (answers : List Answer) → AreAnswers cases answers → length answers ≡ length cases
same_count [] [] h = refl
same_count [] (a ∷ answers) h = absurd h
same_count (case ∷ cases) [] h = absurd h
same_count (case ∷ cases) (a ∷ answers) h = let same = same_count cases answers h.1 in omega (arith, same)

pub few_told : (walk : Walk) (first now before after : Option (List ℕ)) (count : ℕ) → IsUnderway first now walk before after → walk.input.place + count + 1 ≤ walk.input.max → walk.lines.cases < 2 ^ 60
few_told walk first now before after count h within =
    let few = few_taken walk first now before after count h within in
    let number = h.count in
    let told = h.told.count in
    let all : length h.lines ≡ length (flat_map lines_of h.cases) + length (front_if walk.opened) =
    ap (λ (l : List (List ℕ)). length l) h.stands.are ∙ length-map (flat_map lines_of h.cases ++ front_if walk.opened) line_text ∙ length-append (flat_map lines_of h.cases) (front_if walk.opened) in
    omega (arith, few, number, told, all, cases_lines h.cases, same_count h.cases h.told.answers h.told.are)

-- a case that ends is small
pub few_rules : (walk : Walk) (first now before after : Option (List ℕ)) (text : List ℕ) (case : Case) (next : Option Case) → IsUnderway first now walk before after
    → TakesText walk.opened text (taken.Whole case) next → length case.lines < 2 ^ 32
few_rules walk first now before after text case next h takes =
    let stands = takes h.lines h.cases h.stands in
    let last : IsWritable case = All-contains IsWritable (h.cases ++ case ∷ []) case stands.writable (Contains-push h.cases case) in
    let few = last.few in
    omega (arith, few, lines_count case)

-- what is held is a line, its line feed and the rest
held_line : (held : List ℕ) (count : ℕ) → IsFirstPlace 10 held count → held ≡ take count held ++ 10 ∷ drop (count + 1) held
held_line held count at = cut_there 10 held count at

pub step_taken : (walk new : Walk) (first now before at after : Option (List ℕ)) (count : ℕ) (cases : List Case) → (h : IsUnderway first now walk before at)
    → IsFirstPlace 10 walk.input.held count × (walk.input.place + count + 1 ≤ walk.input.max) → new.input ≡ stepped walk.input (count + 1) → new.max ≡ walk.max → new.number ≡ walk.number + 1
    → Stands (h.lines ++ take count walk.input.held ∷ []) cases new.opened → HasTold cases new.lines before after → IsUnderway first now new before after
step_taken walk new first now before at after count cases h line step max number stands told =
    let input = walk.input in
    let there = line.0 in
    let within = there.within in
    let place : input.place + (count + 1) ≤ input.max = omega (arith, line.1) in
    let fits : count + 1 ≤ length input.held = omega (arith, within) in
    let text : List ℕ = take count input.held in
    let front : ended h.lines ++ take (count + 1) input.held ≡ ended (h.lines ++ text ∷ []) =
    ap (λ (t : List ℕ). ended h.lines ++ t) (with_feed input.held count there) ∙ sym (ended_push h.lines text) in
    let behind : IsBehind first (ended (h.lines ++ text ∷ [])) (stepped input (count + 1)) now =
    subst (λ (t : List ℕ). IsBehind first t (stepped input (count + 1)) now) front (behind_step first now (ended h.lines) input (count + 1) fits h.behind) in
    record {
      lines = h.lines ++ text ∷ [];
      cases = cases;
      behind = subst (λ (t : InputState). IsBehind first (ended (h.lines ++ text ∷ [])) t now) (sym step) behind;
      buffer = subst IsBuffer (sym step) (buffer_step input (count + 1) fits place h.buffer);
      limit = max ∙ h.limit ∙ sym (ap (λ (t : InputState). t.max) step);
      lack = All-push Lack h.lines text h.lack there.first;
      count = number ∙ ap (λ n. n + 1) h.count ∙ sym (length_push h.lines text);
      stands = stands;
      told = told;
    }

-- a fault before a line is taken
pub breaks_before : (walk : Walk) (first now before after : Option (List ℕ)) → IsUnderway first now walk before after → Breaks walk.max first now before after
breaks_before walk first now before after h =
    let within = h.buffer.within in
    let place = h.behind.place in
    let limit = h.limit in
    breaks walk.max walk.input first now before after (ended h.lines) walk.input.held h.lines h.cases walk.opened h.limit h.buffer h.behind refl (omega (arith, within, place, limit)) h.lack h.stands
    (part_told h.cases walk.lines before after h.told)

-- and one while a case is told
pub breaks_after : (walk : Walk) (first now before at after : Option (List ℕ)) (count : ℕ) (case : Case) (answer : Answer) (next : Option Case) → IsUnderway first now walk before at
    → IsFirstPlace 10 walk.input.held count × (walk.input.place + count + 1 ≤ walk.input.max) → TakesText walk.opened (take count walk.input.held) (taken.Whole case) next → IsAnswer case answer
    → GainsPart at (walk.lines.held ++ verdict_line walk.lines.cases answer) after → Breaks walk.max first now before after
breaks_after walk first now before at after count case answer next h line takes is part =
    let input = walk.input in
    let text : List ℕ = take count input.held in
    let there = line.0 in
    let within = there.within in
    let place = h.behind.place in
    let limit = h.limit in
    let long : length (ended (h.lines ++ text ∷ [])) ≡ length (ended h.lines) + count + 1 =
    omega (arith, ap (λ (t : List ℕ). length t) (ended_push h.lines text), length-append (ended h.lines) (text ++ 10 ∷ []), length-append text (10 ∷ []), length-take-le count input.held (omega (arith, within))) in
    let moved : ended h.lines ++ input.held ≡ ended (h.lines ++ text ∷ []) ++ drop (count + 1) input.held =
    ap (λ (t : List ℕ). ended h.lines ++ t) (held_line input.held count there ∙ sym (append_assoc text (10 ∷ []) (drop (count + 1) input.held)))
    ∙ sym (append_assoc (ended h.lines) (text ++ 10 ∷ []) (drop (count + 1) input.held)) ∙ ap (λ (t : List ℕ). t ++ drop (count + 1) input.held) (sym (ended_push h.lines text)) in
    breaks walk.max input first now before after (ended h.lines) (drop (count + 1) input.held) (h.lines ++ text ∷ []) (h.cases ++ case ∷ []) next h.limit h.buffer h.behind moved
    (omega (arith, long, line.1, place, limit)) (All-push Lack h.lines text h.lack there.first) (takes h.lines h.cases h.stands)
    (part_at_line h.cases case answer walk.lines before at after h.told is part)

-- a line that is held and doesn't fit
pub unfit_held : (walk new : Walk) (first now before after : Option (List ℕ)) (count : ℕ) (next : Option Case) → (h : IsUnderway first now walk before after)
    → IsFirstPlace 10 walk.input.held count × (walk.input.place + count + 1 ≤ walk.input.max) → TakesText walk.opened (take count walk.input.held) taken.Refused next
    → new.max ≡ walk.max → new.lines ≡ walk.lines → new.input ≡ walk.input → HasWalked first now (told.NotCase walk.number) new before after
unfit_held walk new first now before after count next h line refused max lines input =
    let there = line.0 in
    let within = there.within in
    let place = h.behind.place in
    let limit = h.limit in
    let held = walk.input.held in
    walked_unfit (take count held) (drop (count + 1) held) walk new first now now before after h max lines (ap (λ (t : InputState). t.max) input) (subst IsBuffer (sym input) h.buffer) (ended h.lines)
    (ap (λ (t : InputState). ended h.lines ++ t.held) input ∙ ap (λ (t : List ℕ). ended h.lines ++ t) (held_line held count there))
    (subst (λ (t : InputState). IsBehind first (ended h.lines) t now) (sym input) h.behind)
    (omega (arith, line.1, place, limit, length-take-le count held (omega (arith, within)))) there.first (refused h.lines h.cases h.stands)

-- A line that is longer than any that fits

too_long : (lines : List (List ℕ)) (cases : List Case) (opened : Option Case) (text : List ℕ) → Stands lines cases opened → 46 ≤ length text → ¬ Fit (lines ++ text ∷ [])
too_long lines cases opened text h long =
    unfit lines cases opened text h (λ (line : Line) (is : IsLine text line). let short = line_short text line is in absurd (omega (arith, long, short)))

long_line : (held more : List ℕ) → 46 ≤ length held → 46 ≤ length (take 46 held ++ more)
long_line held more some = omega (arith, length-append (take 46 held) more, length-take-le 46 held some)

pub over_line : (walk : Walk) (new : InputState) (first left now before after : Option (List ℕ)) → (h : IsUnderway first left walk before after)
    → HasPassed first (ended h.lines) (take 46 walk.input.held) passed.Line new now → IsBuffer new → new.max ≡ walk.input.max → 46 ≤ length walk.input.held
    → HasWalked first now (told.NotCase walk.number) (record walk { input = new }) before after
over_line walk new first left now before after h p buffer same some =
    let text : List ℕ = take 46 walk.input.held ++ p.more in
    let long = long_line walk.input.held p.more some in
    let behind : IsBehind first (ended h.lines ++ (text ++ 10 ∷ [])) new now = p.ends in
    let place = behind.place in
    let within = buffer.within in
    let limit = h.limit in
    walked_unfit text new.held walk (record walk { input = new }) first now left before after h refl refl same buffer (ended h.lines ++ (text ++ 10 ∷ []))
    (append_assoc (ended h.lines) (text ++ 10 ∷ []) new.held ∙ ap (λ (t : List ℕ). ended h.lines ++ t) (append_assoc text (10 ∷ []) new.held)) behind
    (omega (arith, place, within, limit, same, length-append (ended h.lines) (text ++ 10 ∷ []), length-append text (10 ∷ []))) p.lacks
    (too_long h.lines h.cases walk.opened text h.stands long)

pub over_rest : (walk : Walk) (new : InputState) (first left now before after : Option (List ℕ)) → (h : IsUnderway first left walk before after)
    → HasPassed first (ended h.lines) (take 46 walk.input.held) passed.Rest new now → IsBuffer new → new.max ≡ walk.input.max → 46 ≤ length walk.input.held
    → HasWalked first now (told.NotCase walk.number) (record walk { input = new }) before after
over_rest walk new first left now before after h p buffer same some =
    let text : List ℕ = take 46 walk.input.held ++ p.more in
    let long = long_line walk.input.held p.more some in
    let ends : IsBehind first (ended h.lines ++ text) new now × (new.held ≡ []) × (new.ended ≡ true) = p.ends in
    let behind : IsBehind first (ended h.lines ++ text) new now = ends.0 in
    let place = behind.place in
    let within = buffer.within in
    let limit = h.limit in
    walked_early text walk new first now left before after h same buffer (ended h.lines ++ text)
    (ap (λ (t : List ℕ). (ended h.lines ++ text) ++ t) ends.1 ∙ append-nil (ended h.lines ++ text)) behind ends.2
    (omega (arith, place, within, limit, same, length-append (ended h.lines) text)) (omega (arith, long)) p.lacks

pub over_limit : (n : ℕ) (walk : Walk) (new : InputState) (first left now before after : Option (List ℕ)) → (h : IsUnderway first left walk before after)
    → HasPassed first (ended h.lines) (take 46 walk.input.held) passed.Limit new now → IsBuffer new → new.max ≡ walk.input.max → n ≡ walk.input.place
    → HasWalked first now (told.TooLong n) (record walk { input = new }) before after
over_limit n walk new first left now before after h p buffer same at =
    let text : List ℕ = take 46 walk.input.held ++ p.more in
    let ends : IsBehind first (ended h.lines ++ text) new now × (new.place ≡ new.max) × (1 ≤ length new.held) = p.ends in
    let behind : IsBehind first (ended h.lines ++ text) new now = ends.0 in
    let place = behind.place in
    let limit = h.limit in
    walked_long text new.held n walk new first now left before after h same buffer (ended h.lines ++ text) (append_assoc (ended h.lines) text new.held) behind
    (omega (arith, place, limit, same, ends.1, length-append (ended h.lines) text)) ends.2 (at ∙ h.behind.place) p.lacks

pub over_fault : (walk : Walk) (new : InputState) (first left now before after : Option (List ℕ)) → (h : IsUnderway first left walk before after)
    → ((front : List ℕ) → IsBehind first front (stepped walk.input 46) left → (more : List ℕ) × IsBehind first (front ++ more) new now) → IsBuffer new → new.max ≡ walk.input.max → 46 ≤ length walk.input.held
    → Breaks walk.max first now before after
over_fault walk new first left now before after h each buffer same some =
    let text : List ℕ = take 46 walk.input.held in
    let more = each (ended h.lines ++ text) (behind_step first left (ended h.lines) walk.input 46 some h.behind) in
    let within = h.buffer.within in
    let place = h.behind.place in
    let limit = h.limit in
    breaks walk.max new first now before after ((ended h.lines ++ text) ++ more.0) (text ++ (more.0 ++ new.held)) h.lines h.cases walk.opened (h.limit ∙ sym same) buffer more.1
    (append_assoc (ended h.lines ++ text) more.0 new.held ∙ append_assoc (ended h.lines) text (more.0 ++ new.held)) (omega (arith, within, place, limit)) h.lack h.stands
    (part_told h.cases walk.lines before after h.told)

-- What stands ahead in a buffer that was filled

pub inside_here : (walk : Walk) (input : InputState) (first left now before after : Option (List ℕ)) → (h : IsUnderway first left walk before after)
    → IsBehind first (ended h.lines) input now → IsBuffer input → input.max ≡ walk.input.max
    → (1 ≤ length input.held) × (input.ended ≡ true) × (input.place + length input.held ≤ input.max) × ¬ Contains input.held 10
    → HasWalked first now (told.NotCase walk.number) (record walk { input = input }) before after
inside_here walk input first left now before after h behind buffer same is =
    let place = behind.place in
    let limit = h.limit in
    walked_early input.held walk input first now left before after h same buffer (ended h.lines) refl behind is.1 (omega (arith, place, limit, same, is.2)) is.0 is.3

pub past_here : (n : ℕ) (walk : Walk) (input : InputState) (first left now before after : Option (List ℕ)) → (h : IsUnderway first left walk before after)
    → IsBehind first (ended h.lines) input now → IsBuffer input → input.max ≡ walk.input.max → n ≡ input.place
    → (input.max < input.place + length input.held) × ¬ Contains (take (input.max - input.place) input.held) 10
    → HasWalked first now (told.TooLong n) (record walk { input = input }) before after
past_here n walk input first left now before after h behind buffer same at is =
    let k : ℕ = input.max - input.place in
    let place = behind.place in
    let limit = h.limit in
    let within = buffer.within in
    let few : k < length input.held = omega (arith, is.0, within) in
    walked_long (take k input.held) (drop k input.held) n walk input first now left before after h same buffer (ended h.lines)
    (ap (λ (t : List ℕ). ended h.lines ++ t) (sym (take-append-drop k input.held))) behind
    (omega (arith, place, limit, same, within, length-take-le k input.held (omega (arith, few)))) (omega (arith, few, length-drop k input.held)) (at ∙ behind.place) is.1

-- What a call that is answered as it is says

pub ok_none : {T E : Type 0} (r : Result (Option T) E) (A B : Type 0) → (A → B) → IfOk r (λ end. IfNone end A) → IfOk r (λ end. IfNone end B)
ok_none (Ok None) A B more h = more h
ok_none (Ok (Some x)) A B more h = tt
ok_none (Err e) A B more h = tt

pub ok_some : {T E : Type 0} (r : Result (Option T) E) (P Q : T → Type 0) → ((x : T) → P x → Q x) → IfOk r (λ end. IfSome end P) → IfOk r (λ end. IfSome end Q)
ok_some (Ok None) P Q more h = tt
ok_some (Ok (Some x)) P Q more h = more x h
ok_some (Err e) P Q more h = tt

pub err_more : {T E : Type 0} (r : Result T E) (A B : Type 0) → (A → B) → OnErr r A → OnErr r B
err_more (Ok x) A B more h = tt
err_more (Err e) A B more h = more h

-- Each line brings the limit nearer

pub nearer : (old new : Walk) (first left now before at after : Option (List ℕ)) → IsUnderway first left old before at → IsUnderway first now new before after → new.max ≡ old.max
    → old.input.place < new.input.place → new.input.max - new.input.place < old.input.max - old.input.place
nearer old new first left now before at after h k same more =
    let was = h.limit in
    let is = k.limit in
    let within = k.buffer.within in
    omega (arith, was, is, same, within, more)

-- The whole

pub checks : (max : ℕ) (walk : Walk) (checked : Checked) (first now before at after : Option (List ℕ)) → walk.max ≡ max → HasWalked first now checked walk before at
    → Gains at walk.lines.held after → Checks max checked first before after
checks max walk checked first now before at after same h gained = record {
  cases = h.cases;
  ending = h.ending;
  answers = h.told.answers;
  of_input = subst (λ n. IfSome first (λ bytes. IsChecked n bytes h.cases h.ending)) same h.of_input;
  are = h.told.are;
  tells = h.tells;
  gained = Sent-whole before at after (verdicts_from 0 h.told.answers) walk.lines.held h.told.sent gained;
}

-- what is told of any cases, ending and answers that the input has
pub exactly : OneCheck → OneListOfAnswers → (max : ℕ) (checked : Checked) (first before after : Option (List ℕ)) → Checks max checked first before after → TellsExactly max first checked
exactly one_check one_list max checked None before after h = tt
exactly one_check one_list max checked (Some bytes) before after h = λ cases ending answers is are.
    let both = one_check max bytes h.cases cases h.ending ending h.of_input is in
    let list : h.answers ≡ answers = one_list cases h.answers answers (subst (λ (l : List Case). AreAnswers l h.answers) both.0 h.are) are in
    subst (λ (e : CheckEnding). Tells checked e answers) both.1 (subst (λ (l : List Answer). Tells checked h.ending l) list h.tells)

pub checks_part : OneCheck → OneText → (max : ℕ) (walk : Walk) (checked : Checked) (first now before at after : Option (List ℕ)) → walk.max ≡ max → HasWalked first now checked walk before at
    → GainsPart at walk.lines.held after → ChecksPart max first before after
checks_part one_check one_text max walk checked None now before at after same h part = tt
checks_part one_check one_text max walk checked (Some bytes) now before at after same h part = λ cases ending text is verdicts.
    let mine : IsChecked max bytes h.cases h.ending = subst (λ n. IsChecked n bytes h.cases h.ending) same h.of_input in
    let both = one_check max bytes cases h.cases ending h.ending is mine in
    let moved : IsVerdicts h.cases text = subst (λ (l : List Case). IsVerdicts l text) both.0 verdicts in
    let texts = one_text h.cases (verdicts_from 0 h.told.answers) text (record { answers = h.told.answers; are = h.told.are; text_is = refl }) moved in
    subst (λ (t : List ℕ). GainsPart before t after) texts (Sent-cut before at after (verdicts_from 0 h.told.answers) walk.lines.held h.told.sent part)

-- what was read for an answer was read for a fault
pub any_answer : (max : ℕ) (checked : Option Checked) (first now : Option (List ℕ)) → IsReadTo max checked first now → IsReadTo max None first now
any_answer max checked None now h = tt
any_answer max checked (Some bytes) now h = record { read = h.read; rest = h.rest; now_is = h.now_is; all = h.all; reaches = tt; bounded = h.bounded }

pub read_for_fault : (max : ℕ) (first now : Option (List ℕ)) (result : Result Checked Fault) → IsErr result → IsReadTo max None first now → IsReadTo max (answer_of result) first now
read_for_fault max first now (Ok checked) fault h = absurd (let no = fault in cc)
read_for_fault max first now (Err f) fault h = h

pub walked_to : (max : ℕ) (walk : Walk) (checked : Checked) (first now before at : Option (List ℕ)) → walk.max ≡ max → HasWalked first now checked walk before at → IsReadTo max (Some checked) first now
walked_to max walk checked first now before at same h = subst (λ n. IsReadTo n (Some checked) first now) same h.read

pub part_of : (max n : ℕ) (first now before after : Option (List ℕ)) → n ≡ max → Breaks n first now before after → Breaks max first now before after
part_of max n first now before after same h = subst (λ m. Breaks m first now before after) same h

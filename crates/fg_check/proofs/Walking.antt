-- How a text is walked.
use Rattle.std.proofs.Common.{◌≡◌, ◌≢◌, ◌⊎◌, inl, inr, ⊎_elim, ℕ, ◌+◌, ◌-◌, ◌<◌, ◌≤◌, ◌^◌, true, Option, None, Some, IfSome, List, [], ◌∷◌, ◌++◌, length, take, drop, All, refl, sym, ap, ◌∙◌, subst, arith, append_assoc, append-nil, take-append-drop}
use Rattle.std.specs.List.{Contains, flat_map}
use Rattle.std.specs.Io.KnownBytes.{IsAtEnd}
use Rattle.std.proofs.Math.Seq.{take-append-add}
use Rattle.std.proofs.lemmas.List.{drop-append-le, length-append, length-drop, length-take-le, nil_from_length, take-append-le, take_all, take_at}
use Rattle.std.proofs.lemmas.List.Elements.{All-push}
use Rattle.fg_io.specs.InputBuffer.{InputState}
use Rattle.fg_io.specs.Sink.{Gains, GainsPart}
use Rattle.fg_io.specs.Source.{Gives}
use Rattle.fg_io.proofs.SourceLemmas.{Gives-told}
use Rattle.fg_proof.specs.declared.case.Case.{Case}
use Rattle.fg_proof.specs.Text.{IsWritable, cases_text, line_limit, lines_of}
use Rattle.fg_check.specs.declared.walk.Checked.{Checked}
use Rattle.fg_check.specs.Checked.{CheckEnding, Whole, NotCase, TooLong, ChecksPart, EndsEarly, IsChecked, IsFirstUnfit}
use Rattle.fg_check.specs.Line.{IsFirstPlace, IsLine}
use Rattle.fg_check.specs.Reading.{HasLine, ReachesForCheck}
use Rattle.fg_check.specs.Split.{AreWhole, Fit, IsSplit, ended, texts_of}
use Rattle.fg_check.specs.Steps.{Breaks, IsBehind, IsBuffer, IsReadTo, Stands, longest, stepped}
use Rattle.fg_check.specs.Text.{IsVerdicts}
use Rattle.fg_check.proofs.Cuts.{cut_there, lacks_nil, lacks_take}
use Rattle.fg_check.proofs.Endings.{front_checked}
use Rattle.fg_check.proofs.Grammar.{stands_fit, unfit}
use Rattle.fg_check.proofs.Splits.{Lack, a_split, ended_push, ended_texts, few_lines, split_end, split_join}
use Rattle.fg_check.proofs.Telling.{HasPart}
use Rattle.fg_check.proofs.Wholes.{fit_take, stands_all, stands_open, stands_whole, whole_but_last}

-- Bytes that end so

-- a line that doesn't fit
pub unfit_here : (max : ℕ) (bytes text more : List ℕ) (lines : List (List ℕ)) (cases : List Case) (opened : Option Case)
    → bytes ≡ ended lines ++ (text ++ 10 ∷ more) → length (ended lines) + length text + 1 ≤ max → All Lack lines → Lack text → Stands lines cases opened → ¬ Fit (lines ++ text ∷ [])
    → IsChecked max bytes cases (NotCase (length lines))
unfit_here max bytes text more lines cases opened is fits lack lacks h unfit =
    let mine : List (List ℕ) = lines ++ text ∷ [] in
    let k : ℕ = max - length (ended mine) in
    let long : length (ended mine) ≡ length (ended lines) + length text + 1 =
    omega (arith, ap (λ (t : List ℕ). length t) (ended_push lines text), length-append (ended lines) (text ++ 10 ∷ []), length-append text (10 ∷ [])) in
    let split : length (ended mine) + k ≡ max = omega (arith, long, fits) in
    let whole : bytes ≡ ended mine ++ more =
    is ∙ ap (λ (t : List ℕ). ended lines ++ t) (sym (append_assoc text (10 ∷ []) more)) ∙ sym (append_assoc (ended lines) (text ++ 10 ∷ []) more)
    ∙ ap (λ (t : List ℕ). t ++ more) (sym (ended_push lines text)) in
    let front : take max bytes ≡ ended mine ++ take k more =
    ap (λ (t : List ℕ). take max t) whole ∙ ap (λ m. take m (ended mine ++ more)) (sym split) ∙ take-append-add (ended mine) more k in
    let rest = a_split (take k more) in
    let all : List (List ℕ) = mine ++ rest.0 in
    let line_first : all ≡ lines ++ (text ∷ rest.0) = append_assoc lines (text ∷ []) rest.0 in
    let before : take (length lines) all ≡ lines = ap (λ (l : List (List ℕ)). take (length lines) l) line_first ∙ take_at lines (text ∷ rest.0) (length lines) refl in
    let counted : length mine ≡ length lines + 1 = length-append lines (text ∷ []) in
    let with_it : take (length lines + 1) all ≡ mine = take_at mine rest.0 (length lines + 1) counted in
    record {
      lines = all;
      rest = rest.1;
      split = subst (λ (t : List ℕ). IsSplit t all rest.1) (sym front) (split_join mine rest.0 (take k more) rest.1 (All-push Lack lines text lack lacks) rest.2);
      first = inl
          (record {
            there = omega (arith, counted, length-append mine rest.0);
            fit = subst Fit (sym before) (stands_fit lines cases opened h);
            unfit = subst (λ (l : List (List ℕ)). ¬ Fit l) (sym with_it) unfit;
          });
      whole = subst (λ (l : List (List ℕ)). AreWhole l cases) (sym before) (stands_whole lines cases opened h);
    }

-- a line without a line feed, at the end
pub early_here : (max : ℕ) (bytes rest : List ℕ) (lines : List (List ℕ)) (cases : List Case) (opened : Option Case)
    → bytes ≡ ended lines ++ rest → length (ended lines) + length rest ≤ max → 1 ≤ length rest → All Lack lines → Lack rest → Stands lines cases opened
    → IsChecked max bytes cases (NotCase (length lines))
early_here max bytes rest lines cases opened is fits some lack lacks h =
    let few : length bytes ≤ max = omega (arith, ap (λ (t : List ℕ). length t) is, length-append (ended lines) rest, fits) in
    let whole : take max bytes ≡ ended lines ++ rest = take_all max bytes few ∙ is in
    record {
      lines = lines;
      rest = rest;
      split = subst (λ (t : List ℕ). IsSplit t lines rest) (sym whole) (split_end lines rest lack lacks);
      first = inr (few, record { fit = stands_fit lines cases opened h; last = inl ((λ none. absurd (omega (arith, some, ap (λ (t : List ℕ). length t) none))), refl) });
      whole = subst (λ (l : List (List ℕ)). AreWhole l cases) (sym (take_all (length lines) lines (omega arith))) (stands_whole lines cases opened h);
    }

-- the end inside a case
pub open_here : (max : ℕ) (bytes : List ℕ) (lines : List (List ℕ)) (cases : List Case) (case : Case) (n : ℕ)
    → bytes ≡ ended lines → length (ended lines) ≤ max → n + 1 ≡ length lines → All Lack lines → Stands lines cases (Some case)
    → IsChecked max bytes cases (NotCase n)
open_here max bytes lines cases case n is fits last lack h =
    let few : length bytes ≤ max = omega (arith, ap (λ (t : List ℕ). length t) is, fits) in
    let whole : take max bytes ≡ ended lines ++ [] = take_all max bytes few ∙ is ∙ sym (append-nil (ended lines)) in
    record {
      lines = lines;
      rest = [];
      split = subst (λ (t : List ℕ). IsSplit t lines []) (sym whole) (split_end lines [] lack (lacks_nil 10));
      first = inr (few, record { fit = stands_fit lines cases (Some case) h; last = inr (refl, last, stands_open lines cases case h) });
      whole = whole_but_last lines cases case n h last;
    }

-- the end behind a case
pub whole_here : (max : ℕ) (bytes : List ℕ) (lines : List (List ℕ)) (cases : List Case)
    → bytes ≡ ended lines → length (ended lines) ≤ max → Stands lines cases None → IsChecked max bytes cases Whole
whole_here max bytes lines cases is fits h =
    (omega (arith, ap (λ (t : List ℕ). length t) is, fits), h.writable, is ∙ ap (λ (l : List (List ℕ)). ended l) (stands_all lines cases h) ∙ ended_texts cases)

-- a line that isn't whole within the limit
pub long_here : (max : ℕ) (bytes rest more : List ℕ) (lines : List (List ℕ)) (cases : List Case) (opened : Option Case) (n : ℕ)
    → bytes ≡ ended lines ++ (rest ++ more) → length (ended lines) + length rest ≡ max → 1 ≤ length more → n ≡ length (ended lines) → All Lack lines → Lack rest → Stands lines cases opened
    → IsChecked max bytes cases (TooLong n)
long_here max bytes rest more lines cases opened n is fits some place lack lacks h =
    let moved : bytes ≡ (ended lines ++ rest) ++ more = is ∙ sym (append_assoc (ended lines) rest more) in
    let long : length (ended lines ++ rest) ≡ max = omega (arith, length-append (ended lines) rest, fits) in
    let front : take max bytes ≡ ended lines ++ rest = ap (λ (t : List ℕ). take max t) moved ∙ take_at (ended lines ++ rest) more max long in
    record {
      longer = omega (arith, ap (λ (t : List ℕ). length t) moved, length-append (ended lines ++ rest) more, long, some);
      lines = lines;
      rest = rest;
      split = subst (λ (t : List ℕ). IsSplit t lines rest) (sym front) (split_end lines rest lack lacks);
      fit = stands_fit lines cases opened h;
      place = place;
      whole = stands_whole lines cases opened h;
    }

-- a line that was read
pub line_read : (read text more : List ℕ) (lines : List (List ℕ)) → read ≡ ended lines ++ (text ++ 10 ∷ more) → All Lack lines → Lack text → HasLine read (length lines)
line_read read text more lines is lack lacks =
    let mine : List (List ℕ) = lines ++ text ∷ [] in
    let rest = a_split more in
    let whole : read ≡ ended mine ++ more =
    is ∙ ap (λ (t : List ℕ). ended lines ++ t) (sym (append_assoc text (10 ∷ []) more)) ∙ sym (append_assoc (ended lines) (text ++ 10 ∷ []) more)
    ∙ ap (λ (t : List ℕ). t ++ more) (sym (ended_push lines text)) in
    record {
      lines = mine ++ rest.0;
      rest = rest.1;
      split = subst (λ (t : List ℕ). IsSplit t (mine ++ rest.0) rest.1) (sym whole) (split_join mine rest.0 more rest.1 (All-push Lack lines text lack lacks) rest.2);
      there = omega (arith, length-append mine rest.0, length-append lines (text ∷ []));
    }

-- Reading

-- what the source has left, and what it gave
pub behind_told : (bytes front : List ℕ) (input : InputState) (now : Option (List ℕ)) → IsBehind (Some bytes) front input now
    → (rest : List ℕ) × (now ≡ Some rest) × (bytes ≡ (front ++ input.held) ++ rest)
behind_told bytes front input now h = Gives-told (Some bytes) now (front ++ input.held) bytes h.gave refl

-- some of what is held was stepped over
pub behind_step : (first now : Option (List ℕ)) (front : List ℕ) (input : InputState) (count : ℕ) → count ≤ length input.held → IsBehind first front input now
    → IsBehind first (front ++ take count input.held) (stepped input count) now
behind_step first now front input count few h =
    let split : front ++ input.held ≡ (front ++ take count input.held) ++ drop count input.held =
    ap (λ (t : List ℕ). front ++ t) (sym (take-append-drop count input.held)) ∙ sym (append_assoc front (take count input.held) (drop count input.held)) in
    let place = h.place in
    record {
      gave = subst (λ (t : List ℕ). Gives first t now) split h.gave;
      place = omega (arith, place, length-append front (take count input.held), length-take-le count input.held few);
      at_end = h.at_end;
    }

pub buffer_step : (input : InputState) (count : ℕ) → count ≤ length input.held → input.place + count ≤ input.max → IsBuffer input → IsBuffer (stepped input count)
buffer_step input count few within h = record {
  longest_is = h.longest_is;
  small = h.small;
  limit = h.limit;
  within = within;
  bounded = let bounded = h.bounded in omega (arith, length-drop count input.held, bounded, few);
}

-- the input was read so far
pub read_for : (max : ℕ) (checked : Option Checked) (first now : Option (List ℕ)) (front : List ℕ) (input : InputState) → max ≡ input.max → IsBuffer input → IsBehind first front input now
    → ((rest : List ℕ) → now ≡ Some rest → IfSome checked (λ c. ReachesForCheck max c (front ++ input.held) rest)) → IsReadTo max checked first now
read_for max checked None now front input same buffer h reaches = tt
read_for max checked (Some bytes) now front input same buffer h reaches =
    let told = behind_told bytes front input now h in
    let bounded = buffer.bounded in
    let place = h.place in
    record {
      read = front ++ input.held;
      rest = told.0;
      now_is = told.1;
      all = told.2;
      reaches = reaches told.0 told.1;
      bounded = omega (arith, length-append front input.held, bounded, place, same);
    }

-- nothing is left
pub nothing_left : (now : Option (List ℕ)) (rest : List ℕ) → IsAtEnd now → now ≡ Some rest → rest ≡ []
nothing_left now rest end is = let at : IsAtEnd (Some rest) = subst IsAtEnd is end in at

-- Faults

part_of_all : (max : ℕ) (bytes more : List ℕ) (lines : List (List ℕ)) (cases : List Case) (opened : Option Case) (before after : Option (List ℕ))
    → bytes ≡ ended lines ++ more → length (ended lines) ≤ max → All Lack lines → Stands lines cases opened → HasPart cases before after
    → ChecksPart max (Some bytes) before after
part_of_all max bytes more lines cases opened before after is few lack h part all ending text checked verdicts =
    let front = front_checked max bytes more lines cases all opened ending is few lack h checked in
    part front.0 text (subst (λ (l : List Case). IsVerdicts l text) front.1 verdicts)

-- after a fault, where these lines stand and a part of the text of their cases is written
pub breaks : (max : ℕ) (input : InputState) (first now before after : Option (List ℕ)) (front rest : List ℕ) (lines : List (List ℕ)) (cases : List Case) (opened : Option Case)
    → max ≡ input.max → IsBuffer input → IsBehind first front input now → front ++ input.held ≡ ended lines ++ rest → length (ended lines) ≤ max → All Lack lines → Stands lines cases opened
    → HasPart cases before after → Breaks max first now before after
breaks max input None now before after front rest lines cases opened same buffer h is few lack stands part = (tt, tt)
breaks max input (Some bytes) now before after front rest lines cases opened same buffer h is few lack stands part =
    let told = behind_told bytes front input now h in (
      part_of_all max bytes (rest ++ told.0) lines cases opened before after
          (told.2 ∙ ap (λ (t : List ℕ). t ++ told.0) is ∙ append_assoc (ended lines) rest told.0) few lack stands part,
      read_for max None (Some bytes) now front input same buffer h (λ left _. tt),
    )

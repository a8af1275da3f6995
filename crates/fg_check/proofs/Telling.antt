-- How far the writing of the text has come.
use Rattle.std.proofs.Common.{◌≡◌, ◌≢◌, ◌⊎◌, ⊎_elim, ℕ, suc, ◌+◌, ◌<◌, ◌≤◌, Option, None, Some, List, [], ◌∷◌, ◌++◌, length, refl, sym, ap, ◌∙◌, subst, arith, append_assoc, append-nil}
use Rattle.std.specs.List.{AllZip}
use Rattle.std.proofs.lemmas.List.{length-append}
use Rattle.fg_io.specs.Prefix.{IsPrefix}
use Rattle.fg_io.specs.Sent.{Sent}
use Rattle.fg_io.specs.Sink.{GainsPart}
use Rattle.fg_io.proofs.SentLemmas.{Sent-part, Sent-start, Sent-stop, Sent-then}
use Rattle.fg_io.proofs.SinkLemmas.{GainsPart-front}
use Rattle.fg_proof.specs.declared.case.Case.{Case}
use Rattle.fg_proof.specs.declared.judging.Answer.{Answer}
use Rattle.fg_proof.specs.Judgement.{IsAnswer}
use Rattle.fg_proof.proofs.CasesOne.{one_answer}
use Rattle.fg_check.specs.declared.lines.Lines.{Lines}
use Rattle.fg_check.specs.Laws.{OneListOfAnswers, OneText}
use Rattle.fg_check.specs.Steps.{FindsUnproved, HasTold}
use Rattle.fg_check.specs.Text.{AreAnswers, IsFirstUnproved, IsVerdicts, verdict_line, verdicts_from}

-- One list of answers, one text

pub one_list : OneListOfAnswers
one_list [] [] [] h k = refl
one_list [] [] (a ∷ other) h k = absurd k
one_list [] (a ∷ one) other h k = absurd h
one_list (case ∷ cases) [] other h k = absurd h
one_list (case ∷ cases) (a ∷ one) [] h k = absurd k
one_list (case ∷ cases) (a ∷ one) (b ∷ other) h k =
    ap (λ (x : Answer). x ∷ one) (one_answer case a b h.0 k.0) ∙ ap (λ (l : List Answer). b ∷ l) (one_list cases one other h.1 k.1)

pub one_text : OneText
one_text cases one other h k = h.text_is ∙ ap (λ (l : List Answer). verdicts_from 0 l) (one_list cases h.answers k.answers h.are k.are) ∙ sym k.text_is

-- One more answer

are_more : (cases : List Case) (answers : List Answer) (case : Case) (answer : Answer) → AreAnswers cases answers → IsAnswer case answer → AreAnswers (cases ++ case ∷ []) (answers ++ answer ∷ [])
are_more [] [] case answer h k = (k, tt)
are_more [] (a ∷ answers) case answer h k = absurd h
are_more (c ∷ cases) [] case answer h k = absurd h
are_more (c ∷ cases) (a ∷ answers) case answer h k = (h.0, are_more cases answers case answer h.1 k)

lines_more : (i : ℕ) (answers : List Answer) (answer : Answer) → verdicts_from i (answers ++ answer ∷ []) ≡ verdicts_from i answers ++ verdict_line (i + length answers) answer
lines_more i [] answer =
    let none : i ≡ i + length {A = Answer} [] = omega arith in append-nil (verdict_line i answer) ∙ ap (λ n. verdict_line n answer) none
lines_more i (a ∷ answers) answer =
    let moved : i + 1 + length answers ≡ i + length (a ∷ answers) = omega arith in
    ap (λ (t : List ℕ). verdict_line i a ++ t) (lines_more (i + 1) answers answer ∙ ap (λ n. verdicts_from (i + 1) answers ++ verdict_line n answer) moved)
    ∙ sym (append_assoc (verdict_line i a) (verdicts_from (i + 1) answers) (verdict_line (i + length (a ∷ answers)) answer))

text_more : (answers : List Answer) (answer : Answer) (count : ℕ) → count ≡ length answers → verdicts_from 0 (answers ++ answer ∷ []) ≡ verdicts_from 0 answers ++ verdict_line count answer
text_more answers answer count same =
    let number : 0 + length answers ≡ count = omega (arith, same) in
    lines_more 0 answers answer ∙ ap (λ n. verdicts_from 0 answers ++ verdict_line n answer) number

length_push : (answers : List Answer) (answer : Answer) (count : ℕ) → count ≡ length answers → count + 1 ≡ length (answers ++ answer ∷ [])
length_push answers answer count same = omega (arith, same, length-append answers (answer ∷ []))

pub nothing_told : (lines : Lines) (written : Option (List ℕ)) → lines.held ≡ [] → lines.cases ≡ 0 → lines.unproved ≡ None → HasTold [] lines written written
nothing_told lines written empty none proved = record {
  answers = [];
  are = tt;
  count = none;
  unproved = subst (λ (o : Option ℕ). IsFirstUnproved [] o) (sym proved) (λ i h. h);
  sent = subst (λ bytes. Sent written [] bytes written) (sym empty) (Sent-start written []);
}

pub tells_more :
    (cases : List Case) (case : Case) (answer : Answer) (lines new : Lines) (before at after : Option (List ℕ))
    → HasTold cases lines before at → IsAnswer case answer → Sent at (lines.held ++ verdict_line lines.cases answer) new.held after → new.cases ≡ lines.cases + 1
    → FindsUnproved lines.cases lines.unproved answer new.unproved → HasTold (cases ++ case ∷ []) new before after
tells_more cases case answer lines new before at after h k sent count finds = record {
  answers = h.answers ++ answer ∷ [];
  are = are_more cases h.answers case answer h.are k;
  count = count ∙ length_push h.answers answer lines.cases h.count;
  unproved = finds h.answers h.count h.unproved;
  sent = subst (λ (text : List ℕ). Sent before text new.held after) (sym (text_more h.answers answer lines.cases h.count))
      (Sent-then before at after (verdicts_from 0 h.answers) lines.held (verdict_line lines.cases answer) new.held h.sent sent);
}

-- What a fault leaves

-- The sink has gained a prefix of the text of any cases that begin with these.
abbrev pub HasPart : List Case → Option (List ℕ) → Option (List ℕ) → Type 0
HasPart cases before after = (later : List Case) (text : List ℕ) → IsVerdicts (cases ++ later) text → GainsPart before text after

answers_front : (cases later : List Case) (answers all : List Answer) → AreAnswers cases answers → AreAnswers (cases ++ later) all → (rest : List Answer) × (all ≡ answers ++ rest)
answers_front [] later [] all h k = (all, refl)
answers_front [] later (a ∷ answers) all h k = absurd h
answers_front (case ∷ cases) later [] all h k = absurd h
answers_front (case ∷ cases) later (a ∷ answers) [] h k = absurd k
answers_front (case ∷ cases) later (a ∷ answers) (b ∷ all) h k =
    let tail = answers_front cases later answers all h.1 k.1 in
    (tail.0, ap (λ (x : Answer). x ∷ all) (one_answer case b a k.0 h.0) ∙ ap (λ (l : List Answer). a ∷ l) tail.1)

lines_front : (i : ℕ) (answers rest : List Answer) → (more : List ℕ) × (verdicts_from i (answers ++ rest) ≡ verdicts_from i answers ++ more)
lines_front i [] rest = (verdicts_from i rest, refl)
lines_front i (a ∷ answers) rest =
    let tail = lines_front (i + 1) answers rest in
    (tail.0, ap (λ (t : List ℕ). verdict_line i a ++ t) tail.1 ∙ sym (append_assoc (verdict_line i a) (verdicts_from (i + 1) answers) tail.0))

text_front : (cases later : List Case) (answers : List Answer) (text : List ℕ) → AreAnswers cases answers → IsVerdicts (cases ++ later) text → IsPrefix (verdicts_from 0 answers) text
text_front cases later answers text h k =
    let split = answers_front cases later answers k.answers h k.are in
    let front = lines_front 0 answers split.0 in
    (front.0, k.text_is ∙ ap (λ (l : List Answer). verdicts_from 0 l) split.1 ∙ front.1)

pub part_told : (cases : List Case) (lines : Lines) (before at : Option (List ℕ)) → HasTold cases lines before at → HasPart cases before at
part_told cases lines before at h later text is =
    GainsPart-front before at (verdicts_from 0 h.answers) text (text_front cases later h.answers text h.are is)
    (subst (λ (t : List ℕ). GainsPart before t at) (append-nil (verdicts_from 0 h.answers)) (Sent-stop before at (verdicts_from 0 h.answers) lines.held [] h.sent))

pub part_at_line : (cases : List Case) (case : Case) (answer : Answer) (lines : Lines) (before at after : Option (List ℕ))
    → HasTold cases lines before at → IsAnswer case answer → GainsPart at (lines.held ++ verdict_line lines.cases answer) after → HasPart (cases ++ case ∷ []) before after
part_at_line cases case answer lines before at after h k part later text is =
    let answers : List Answer = h.answers ++ answer ∷ [] in
    GainsPart-front before after (verdicts_from 0 answers) text
    (text_front (cases ++ case ∷ []) later answers text (are_more cases h.answers case answer h.are k) is)
    (subst (λ (t : List ℕ). GainsPart before t after) (sym (text_more h.answers answer lines.cases h.count))
    (Sent-part before at after (verdicts_from 0 h.answers) lines.held (verdict_line lines.cases answer) h.sent part))

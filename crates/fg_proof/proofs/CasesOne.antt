-- A desk has one case, and a case one answer.
use Rattle.std.proofs.Common.{◌≡◌, ℕ, refl, sym, ap, ◌∙◌, arith}
use Rattle.fg_peel.specs.Verdict.{IsLeast}
use Rattle.fg_runs.specs.Laws.{OneListOfRuns}
use Rattle.fg_proof.specs.declared.judging.Answer.TheVariants.{Yes, Disorder, Known, Alone}
use Rattle.fg_proof.specs.Judgement.{IsBoth, IsAlone}
use Rattle.fg_proof.specs.Laws.{OneCase, OneAnswer}

pub one_case : OneListOfRuns → OneCase
one_case one_list port count desk one other is is' =
    let port_is : one.port ≡ other.port = is.port_is ∙ sym is'.port_is in
    let mark_is : one.mark ≡ other.mark = is.mark_is ∙ sym is'.mark_is in
    let count_is : one.count ≡ other.count = is.count_is ∙ sym is'.count_is in
    let known_is : one.known ≡ other.known = one_list one.known other.known is.known_are.apart is'.known_are.apart
    (λ p. (λ h. (is'.known_are.inside p).1 ((is.known_are.inside p).0 h), λ h. (is.known_are.inside p).1 ((is'.known_are.inside p).0 h))) in
    let lines_is : one.lines ≡ other.lines = is.lines_are ∙ sym is'.lines_are in
    let holes_is : one.holes ≡ other.holes = one_list one.holes other.holes is.holes_are.apart is'.holes_are.apart
    (λ p. (λ h. (is'.holes_are.inside p).1 ((is.holes_are.inside p).0 h), λ h. (is.holes_are.inside p).1 ((is'.holes_are.inside p).0 h))) in
    λ k. record { port = port_is k; mark = mark_is k; count = count_is k; known = known_is k; lines = lines_is k; holes = holes_is k }

one_least : (P : ℕ → Type 0) (m n : ℕ) → IsLeast P m → IsLeast P n → m ≡ n
one_least P m n a b = let less = a.1 n b.0 in let more = b.1 m a.0 in omega (arith, less, more)

pub one_answer : OneAnswer
one_answer case Yes Yes a b = refl
one_answer case Yes Disorder a b = absurd (b a.0)
one_answer case Yes (Known p) a b = absurd (a.1 p b.1.0)
one_answer case Yes (Alone n) a b = absurd (a.2 n b.2.0)
one_answer case Disorder Yes a b = absurd (a b.0)
one_answer case Disorder Disorder a b = refl
one_answer case Disorder (Known p) a b = absurd (a b.0)
one_answer case Disorder (Alone n) a b = absurd (a b.0)
one_answer case (Known p) Yes a b = absurd (b.1 p a.1.0)
one_answer case (Known p) Disorder a b = absurd (b a.0)
one_answer case (Known p) (Known q) a b = ap Known (one_least (IsBoth case) p q a.1 b.1)
one_answer case (Known p) (Alone n) a b = absurd (b.1 p a.1.0)
one_answer case (Alone n) Yes a b = absurd (b.2 n a.2.0)
one_answer case (Alone n) Disorder a b = absurd (b a.0)
one_answer case (Alone n) (Known p) a b = absurd (a.1 p b.1.0)
one_answer case (Alone n) (Alone m) a b = ap Alone (one_least (IsAlone case) n m a.2 b.2)

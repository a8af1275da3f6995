-- How far the telling of cases has come.
use Rattle.std.proofs.Common.{◌≡◌, ℕ, List, [], ◌∷◌, ◌++◌, Option, refl, sym, ap, subst, ◌∙◌, append_assoc, append-nil}
use Rattle.std.proofs.lemmas.List.Elements.{All-nil, All-append}
use Rattle.fg_io.specs.Sink.{GainsPart}
use Rattle.fg_io.specs.Sent.{Sent}
use Rattle.fg_io.proofs.SentLemmas.{Sent-start, Sent-then, Sent-part}
use Rattle.fg_playout.specs.PlayedOn.{PlayOn}
use Rattle.fg_proof.specs.declared.case.Case.{Case}
use Rattle.fg_proof.specs.declared.judging.Answer.TheVariants.{Yes}
use Rattle.fg_proof.specs.Judgement.{IsAnswer}
use Rattle.fg_proof.specs.Text.{cases_text}
use Rattle.fg_prove.specs.Proved.{IsCaseOf, AreCases}
use Rattle.fg_prove.specs.Steps.{HaveTold, HavePart}
use Rattle.fg_prove.proofs.Texts.{cases_text-append}

-- The cases of plays that come one after another.
pub cases_join :
    (port : ℕ) (one other : List PlayOn) (cases cases' : List Case) → AreCases port one cases → AreCases port other cases'
    → AreCases port (one ++ other) (cases ++ cases')
cases_join port [] other cases cases' are are' = subst (λ (cs : List Case). AreCases port other (cs ++ cases')) (sym are) are'
cases_join port (made ∷ one) other cases cases' are are' = (
  are.0,
  are.1 ++ cases',
  ap (λ (cs : List Case). cs ++ cases') are.2 ∙ append_assoc are.0 are.1 cases',
  are.3,
  cases_join port one other are.1 cases' are.4 are',
)

pub cases_split :
    (port : ℕ) (one other : List PlayOn) (cases : List Case) → AreCases port (one ++ other) cases
    → (first : List Case) × (rest : List Case) × (cases ≡ first ++ rest) × AreCases port one first × AreCases port other rest
cases_split port [] other cases are = ([], cases, refl, refl, are)
cases_split port (made ∷ one) other cases are =
    let split = cases_split port one other are.1 are.4 in (
      are.0 ++ split.0,
      split.1,
      are.2 ∙ ap (λ (cs : List Case). are.0 ++ cs) split.2 ∙ sym (append_assoc are.0 split.0 split.1),
      (are.0, split.0, refl, are.3, split.3),
      split.4,
    )

pub one_case_of : (port : ℕ) (made : PlayOn) (cases : List Case) → IsCaseOf port made cases → AreCases port (made ∷ []) cases
one_case_of port made cases is = (cases, [], sym (append-nil cases), is, refl)

-- Nothing is told yet.
pub told_none : (port : ℕ) (held : List ℕ) (written : Option (List ℕ)) → HaveTold port [] held written held written
told_none port held written = record {
  cases = [];
  are = refl;
  judged = All-nil (λ case. IsAnswer case Yes);
  sent = subst (λ (t : List ℕ). Sent written t held written) (sym (append-nil held)) (Sent-start written held);
}

-- The text of more cases.
text_more : (held : List ℕ) (one other : List Case) → (held ++ cases_text one) ++ cases_text other ≡ held ++ cases_text (one ++ other)
text_more held one other = append_assoc held (cases_text one) (cases_text other) ∙ ap (λ (t : List ℕ). held ++ t) (sym (cases_text-append one other))

pub told_more :
    (port : ℕ) (one other : List PlayOn) (held between held' : List ℕ) (before middle after : Option (List ℕ))
    → HaveTold port one held before between middle → HaveTold port other between middle held' after
    → HaveTold port (one ++ other) held before held' after
told_more port one other held between held' before middle after first second = record {
  cases = first.cases ++ second.cases;
  are = cases_join port one other first.cases second.cases first.are second.are;
  judged = All-append (λ case. IsAnswer case Yes) first.cases second.cases first.judged second.judged;
  sent = subst (λ (t : List ℕ). Sent before t held' after) (text_more held first.cases second.cases)
      (Sent-then before middle after (held ++ cases_text first.cases) between (cases_text second.cases) held' first.sent second.sent);
}

pub part_more :
    (port : ℕ) (one other : List PlayOn) (held between : List ℕ) (before middle after : Option (List ℕ))
    → HaveTold port one held before between middle → HavePart port other between middle after
    → HavePart port (one ++ other) held before after
part_more port one other held between before middle after first second = record {
  cases = first.cases ++ second.cases;
  are = cases_join port one other first.cases second.cases first.are second.are;
  part = subst (λ (t : List ℕ). GainsPart before t after) (text_more held first.cases second.cases)
      (Sent-part before middle after (held ++ cases_text first.cases) between (cases_text second.cases) first.sent second.part);
}

-- What is told is a part.
pub told_part :
    (port : ℕ) (mades : List PlayOn) (held held' : List ℕ) (before after : Option (List ℕ))
    → HaveTold port mades held before held' after → HavePart port mades held before after
told_part port mades held held' before after told = record {
  cases = told.cases;
  are = told.are;
  part = (told.sent.front, (held', told.sent.rest), told.sent.gained);
}

pub no_part : (port : ℕ) (held : List ℕ) (written : Option (List ℕ)) → HavePart port [] held written written
no_part port held written = told_part port [] held held written written (told_none port held written)

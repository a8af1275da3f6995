-- What becomes of a peeling when words become known, when more equations come and when a play moves the mark.
use Rattle.std.proofs.Common.{◌≡◌, ◌<◌, ◌≤◌, ℕ, Bool, true, false, List, [], ◌∷◌, filter, Option, Some, None, IsSome, is_some, is_none, nat_le, ◌&&◌, if◌then◌else◌, inl, inr, refl, sym, ap, ◌∙◌, ⊎_elim, arith}
use Rattle.std.specs.List.{Contains}
use Rattle.std.specs.Option.{option_or}
use Rattle.std.proofs.lemmas.Bool.{cases_lt, leb-true, le-leb}
use Rattle.fg_words.specs.declared.Word.{Word}
use Rattle.fg_peel.specs.Equation.{Equation, Keeps, Agree, slots}
use Rattle.fg_peel.specs.Peeling.{Step, IsPeeling, after_step, end_of}
use Rattle.fg_peel.specs.Laws.{CarriesOver, ReachesPast, IsPlayed}
use Rattle.fg_peel.proofs.Lists.{Contains-nil, Contains-cases, same_or_not}
use Rattle.fg_peel.proofs.Peelings.{known_or_not, after_step-at, after_step-other, end_of-keeps, end_of-known}
use Rattle.fg_peel.proofs.Carried.{Carries, carried}
use Rattle.fg_peel.proofs.Options.{value_of}

-- A peeling is one under more equations.
pub peelings_take_equations :
    (known : ℕ → Option Word) (few many : List Equation) (steps : List Step)
    → ((equation : Equation) → Contains few equation → Contains many equation)
    → IsPeeling known few steps → IsPeeling known many steps
peelings_take_equations known few many [] listed peeling = tt
peelings_take_equations known few many (step ∷ steps) listed peeling = (
  record {
    listed = listed step.equation peeling.0.listed;
    slot = peeling.0.slot;
    unknown = peeling.0.unknown;
    others_known = peeling.0.others_known;
  },
  peelings_take_equations (after_step known step) few many steps listed peeling.1,
)

-- Each step of a peeling has a listed equation with its position, whose slots all have words at the end.
pub record IsStepOf (known : ℕ → Option Word) (equations : List Equation) (end : ℕ → Option Word) (step : Step) : Type 0 where
  pub listed : Contains equations step.equation
  pub slot : Contains (slots step.equation) step.position
  pub complete : (o : ℕ) → Contains (slots step.equation) o → IsSome (end o)

pub step_of :
    (known : ℕ → Option Word) (equations : List Equation) (steps : List Step) → IsPeeling known equations steps
    → (step : Step) → Contains steps step → IsStepOf known equations (end_of known steps) step
step_of known equations [] peeling step c = absurd (Contains-nil step c)
step_of known equations (first ∷ steps) peeling step c = ⊎_elim
    (λ here. (let P : Step → Type 0 = λ s. IsStepOf known equations (end_of known (first ∷ steps)) s in
    rw here first_of))
    (λ there.
    let r = step_of (after_step known first) equations steps peeling.1 step there in
    record { listed = r.listed; slot = r.slot; complete = r.complete })
    (Contains-cases first steps step c)
  where
    end_known : (o : ℕ) → IsSome (after_step known first o) → IsSome (end_of known (first ∷ steps) o)
    end_known = end_of-known (after_step known first) equations steps peeling.1

    first_of : IsStepOf known equations (end_of known (first ∷ steps)) first
    first_of = record {
      listed = peeling.0.listed;
      slot = peeling.0.slot;
      complete = λ o slot. ⊎_elim
          (λ same. end_known o (ap is_some (ap (after_step known first) same ∙ after_step-at known first)))
          (λ n. end_known o (ap is_some (after_step-other known first o n) ∙ peeling.0.others_known o slot n))
          (same_or_not o first.position);
    }

none_test : (o : Option Word) → is_none o ≡ true → o ≡ None
none_test None e = refl
none_test (Some w) e = absurd (cc)

some_test : (o : Option Word) → is_none o ≡ false → IsSome o
some_test None e = absurd (cc)
some_test (Some w) e = refl

both : (a b : Bool) → (a && b) ≡ true → (a ≡ true) × (b ≡ true)
both true true e = (refl, refl)
both true false e = absurd (cc)
both false b e = absurd (cc)

second_fails : (a b : Bool) → a ≡ true → (a && b) ≡ false → b ≡ false
second_fails true b t e = e
second_fails false b t e = absurd (cc)

module _
    (known more : ℕ → Option Word) (equations others : List Equation) (stays : ℕ → Bool) (steps : List Step)
    (peeling : IsPeeling known equations steps) where
  keep : ℕ → Bool
  keep q = stays q && is_none (more q)

  carries : CarriesOver stays known more (end_of known steps) others steps → Carries equations others stays keep (end_of known steps) known more steps
  unfolding keep
  carries c = record {
    within = λ q kept. (both (stays q) (is_none (more q)) kept).0;
    keeps = λ q w stay is. c.keeps q w stay is;
    agrees = c.agrees;
    unknown = λ q kept none. none_test (more q) (both (stays q) (is_none (more q)) kept).1;
    dropped = λ q stay gone. some_test (more q) (second_fails (stays q) (is_none (more q)) stay gone);
    listed = λ step l kept.
        let b = both (stays step.position) (is_none (more step.position)) kept in
        c.listed step l b.0 (none_test (more step.position) b.1);
    slots_known = λ step l kept o slot.
        let b = both (stays step.position) (is_none (more step.position)) kept in
        c.slots_known step l b.0 (none_test (more step.position) b.1) o slot;
  }

  pub peelings_carry_over :
      CarriesOver stays known more (end_of known steps) others steps
      → let rest = filter (λ step. stays step.position && is_none (more step.position)) steps in
      IsPeeling more others rest
      × ((position : ℕ) → end_of more rest position
      ≡ option_or (more position) (if stays position then end_of known steps position else None))
  unfolding keep
  peelings_carry_over c = carried equations others stays keep (end_of known steps) known more steps peeling (λ q. refl) (carries c)

-- Where words become known, the other steps are a peeling.
pub peelings_take_words :
    (known more : ℕ → Option Word) (equations : List Equation) (steps : List Step) → IsPeeling known equations steps
    → Keeps known more → Agree more (end_of known steps)
    → let rest = filter (λ step. is_none (more step.position)) steps in
    IsPeeling more equations rest × ((position : ℕ) → end_of more rest position ≡ option_or (more position) (end_of known steps position))
peelings_take_words known more equations steps peeling keeps agree =
    peelings_carry_over known more equations equations (λ q. true) steps peeling (record {
      keeps = λ q w stay is. keeps q w is;
      agrees = agree;
      listed = λ step l stay none. (step_of known equations steps peeling step l).listed;
      slots_known = λ step l stay none o slot. inl refl;
    })

module _
    (mark : ℕ) (known later : ℕ → Option Word) (equations kept : List Equation) (steps : List Step)
    (peeling : IsPeeling known equations steps) (played : IsPlayed mark known later (end_of known steps) equations kept) where
  plays : Carries equations kept (nat_le mark) (nat_le mark) (end_of known steps) known later steps
  plays = record {
    within = λ q kept. kept;
    keeps = λ q w stay is. played.ahead q (leb-true mark q stay) ∙ is;
    agrees = λ q one other is ends. ⊎_elim
        (λ below. played.behind q one other below is ends)
        (λ above.
        let was : known q ≡ Some one = sym (played.ahead q above) ∙ is in
        let end : end_of known steps q ≡ Some one = end_of-keeps known equations steps peeling q one was in
        let e : Some one ≡ Some other = sym end ∙ ends in
        (cc))
        (cases_lt q mark);
    unknown = λ q kept none. played.ahead q (leb-true mark q kept) ∙ none;
    dropped = λ q stay gone. absurd (cc);
    listed = λ step l kept.
        let s = step_of known equations steps peeling step l in
        let past : ReachesPast mark step.equation = (step.position, s.slot, leb-true mark step.position kept) in
        played.stays step.equation s.listed past (λ o slot below.
        played.remembered step.equation s.listed past o slot below (s.complete o slot));
    slots_known = λ step l kept o slot. ⊎_elim
        (λ below.
        let s = step_of known equations steps peeling step l in
        let past : ReachesPast mark step.equation = (step.position, s.slot, leb-true mark step.position kept) in
        inr (played.remembered step.equation s.listed past o slot below (s.complete o slot)))
        (λ above. inl (le-leb mark o above))
        (cases_lt o mark);
  }

  or_end : (q : ℕ) → mark ≤ q → option_or (later q) (end_of known steps q) ≡ end_of known steps q
  or_end q above = ⊎_elim
      (λ k.
      let v = value_of (known q) k in
      let end : end_of known steps q ≡ Some v.0 = end_of-keeps known equations steps peeling q v.0 v.1 in
      ap (λ (o : Option Word). option_or o (end_of known steps q)) (played.ahead q above ∙ v.1) ∙ sym end)
      (λ none. ap (λ (o : Option Word). option_or o (end_of known steps q)) (played.ahead q above ∙ none))
      (known_or_not (known q))

  or_none : (o : Option Word) → option_or o None ≡ o
  or_none None = refl
  or_none (Some w) = refl

  under : (q : ℕ) → q < mark → nat_le mark q ≡ false
  under q below = go (nat_le mark q) refl
    where
      go : (b : Bool) → nat_le mark q ≡ b → b ≡ false
      go false e = refl
      go true e = let above : mark ≤ q = leb-true mark q e in absurd (omega arith)

  pub peelings_outlive_plays :
      let rest = filter (λ step. nat_le mark step.position) steps in
      IsPeeling later kept rest
      × ((position : ℕ) → mark ≤ position → end_of later rest position ≡ end_of known steps position)
      × ((position : ℕ) → position < mark → end_of later rest position ≡ later position)
  peelings_outlive_plays =
      let c = carried equations kept (nat_le mark) (nat_le mark) (end_of known steps) known later steps peeling (λ q. refl) plays in (
        c.0,
        λ q above. c.1 q
            ∙ ap (λ (b : Bool). option_or (later q) (if b then end_of known steps q else None)) (le-leb mark q above)
            ∙ or_end q above,
        λ q below. c.1 q
            ∙ ap (λ (b : Bool). option_or (later q) (if b then end_of known steps q else None)) (under q below)
            ∙ or_none (later q),
      )

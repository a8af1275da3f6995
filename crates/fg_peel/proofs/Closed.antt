-- Lines from which nothing follows.
use Rattle.std.proofs.Common.{◌≡◌, ◌≢◌, ◌⊎◌, ℕ, List, [], ◌∷◌, Option, is_some, inl, inr, refl, sym, ap, subst, ◌∙◌, ⊎_elim}
use Rattle.std.specs.List.{Contains}
use Rattle.slab.specs.Slab.{Slab, entries}
use Rattle.fg_words.specs.declared.Word.{Word}
use Rattle.fg_peel.specs.declared.Line.{Line}
use Rattle.fg_peel.specs.declared.span.Missing.{Missing}
use Rattle.fg_peel.specs.declared.span.Missing.TheVariants.{Nothing, One, Several}
use Rattle.fg_peel.specs.Equation.{Equation, slots}
use Rattle.fg_peel.specs.Peeling.{Step, after_step}
use Rattle.fg_peel.specs.Slots.{equation_of, lines_of, IsMissing}
use Rattle.fg_peel.specs.Recovery.{NothingFollows, AllClosed, AllClosedAt, StayClosed}
use Rattle.fg_peel.proofs.Lists.{Contains-cases, Contains-nil, same_or_not, some_or_all}
use Rattle.fg_peel.proofs.Options.{none_has_no_value}
use Rattle.fg_peel.proofs.Lines.{lines_in}
use Rattle.fg_peel.proofs.Peelings.{after_step-other}

closed_by_nothing : (words : ℕ → Option Word) (equation : Equation) → IsMissing words equation Nothing → NothingFollows words equation
closed_by_nothing words equation all position one = none_has_no_value (words position) one.1 (all position one.0)

closed_by_several : (words : ℕ → Option Word) (equation : Equation) → IsMissing words equation Several → NothingFollows words equation
closed_by_several words equation two position one = ⊎_elim
    (λ same. none_has_no_value (words two.1) two.6 (one.2 two.1 two.3 (λ equal. two.4 (same ∙ sym equal))))
    (λ other. none_has_no_value (words two.0) two.5 (one.2 two.0 two.2 other))
    (same_or_not two.0 position)

pub closed_unless_one :
    (words : ℕ → Option Word) (equation : Equation) (missing : Missing) → ((position : ℕ) → missing ≡ One position → ⊥)
    → IsMissing words equation missing → NothingFollows words equation
closed_unless_one words equation Nothing not_one is = closed_by_nothing words equation is
closed_unless_one words equation (One position) not_one is = absurd (not_one position refl)
closed_unless_one words equation Several not_one is = closed_by_several words equation is

-- Words that are the same at the equation's slots.
pub closed_where_same :
    (one other : ℕ → Option Word) (equation : Equation)
    → ((q : ℕ) → Contains (slots equation) q → one q ≡ other q) → NothingFollows one equation
    → NothingFollows other equation
closed_where_same one other equation same closed position missing =
    closed position (
      missing.0,
      same position missing.0 ∙ missing.1,
      λ q c n. (ap is_some (same q c) ∙ missing.2 q c n),
    )

-- An element of a list, or none.
has_or_not : (xs : List ℕ) (p : ℕ) → Contains xs p ⊎ (Contains xs p → ⊥)
has_or_not xs p = ⊎_elim
    (λ r. inl (subst (λ q. Contains xs q) r.2 r.1))
    (λ all. inr (λ c. all p c refl))
    (some_or_all (λ q. q ≡ p) (λ q. q ≢ p) (λ q. same_or_not q p) xs)

-- A step, and then all that follows from its position.
pub stay_closed_filled :
    (words mid new : ℕ → Option Word) (lines : Slab Line) (step : Step) → mid ≡ after_step words step
    → AllClosedAt new lines step.position → StayClosed mid new lines → StayClosed words new lines
stay_closed_filled words mid new lines step is at stay line c closed = ⊎_elim
    (λ has. at line c has)
    (λ without. stay line c (closed_where_same words mid (equation_of line)
    (λ q slot.
    let differs : q ≢ step.position =
    (λ same. without (subst (λ p. Contains (slots (equation_of line)) p) same slot)) in
    sym (ap (λ (ws : ℕ → Option Word). ws q) is ∙ after_step-other words step q differs))
    closed))
    (has_or_not (slots (equation_of line)) step.position)

-- Each live line is left, or closed.
abbrev pub ClosedBut : (ℕ → Option Word) → Slab Line → List (ℕ × Line) → Type 0
ClosedBut words lines rest =
    (line : Line) → Contains (lines_of lines) line
    → Contains (lines_in rest) line ⊎ NothingFollows words (equation_of line)

pub closed_none :
    (words : ℕ → Option Word) (lines : Slab Line) (rest : List (ℕ × Line)) → rest ≡ entries lines
    → ClosedBut words lines rest
closed_none words lines rest whole line c = inl (rw whole c)

pub closed_more :
    (old new : ℕ → Option Word) (lines : Slab Line) (all : List (ℕ × Line)) (entry : ℕ × Line) (rest : List (ℕ × Line))
    → all ≡ entry ∷ rest → NothingFollows new (equation_of entry.1) → StayClosed old new lines → ClosedBut old lines all
    → ClosedBut new lines rest
closed_more old new lines all entry rest cut closed stay but line c = ⊎_elim
    (λ left. ⊎_elim
    (λ here. inr (rw here closed))
    (λ there. inl there)
    (Contains-cases entry.1 (lines_in rest) line (rw cut at left)))
    (λ done. inr (stay line c done))
    (but line c)

pub closed_all :
    (words : ℕ → Option Word) (lines : Slab Line) (rest : List (ℕ × Line)) → rest ≡ [] → ClosedBut words lines rest
    → AllClosed words lines
closed_all words lines rest none but line c =
    ⊎_elim (λ left. absurd (Contains-nil line (rw none at left))) (λ done. done) (but line c)

-- Each live line is left, or closed, or doesn't have this slot.
abbrev pub ClosedAtBut : (ℕ → Option Word) → Slab Line → ℕ → List (ℕ × Line) → Type 0
ClosedAtBut words lines slot rest =
    (line : Line) → Contains (lines_of lines) line
    → Contains (lines_in rest) line ⊎ (Contains (slots (equation_of line)) slot → NothingFollows words (equation_of line))

pub closed_at_none :
    (words : ℕ → Option Word) (lines : Slab Line) (slot : ℕ) (rest : List (ℕ × Line)) → rest ≡ entries lines
    → ClosedAtBut words lines slot rest
closed_at_none words lines slot rest whole line c = inl (rw whole c)

pub closed_at_more :
    (old new : ℕ → Option Word) (lines : Slab Line) (slot : ℕ) (all : List (ℕ × Line)) (entry : ℕ × Line)
    (rest : List (ℕ × Line)) → all ≡ entry ∷ rest
    → (Contains (slots (equation_of entry.1)) slot → NothingFollows new (equation_of entry.1))
    → StayClosed old new lines → ClosedAtBut old lines slot all → ClosedAtBut new lines slot rest
closed_at_more old new lines slot all entry rest cut closed stay but line c = ⊎_elim
    (λ left. ⊎_elim
    (λ here. inr (rw here closed))
    (λ there. inl there)
    (Contains-cases entry.1 (lines_in rest) line (rw cut at left)))
    (λ done. inr (λ has. stay line c (done has)))
    (but line c)

pub closed_at_all :
    (words : ℕ → Option Word) (lines : Slab Line) (slot : ℕ) (rest : List (ℕ × Line)) → rest ≡ []
    → ClosedAtBut words lines slot rest → AllClosedAt words lines slot
closed_at_all words lines slot rest none but line c =
    ⊎_elim (λ left. absurd (Contains-nil line (rw none at left))) (λ done. done) (but line c)

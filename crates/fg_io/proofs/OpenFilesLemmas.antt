-- Lemmas on the files that stay open.
use Rattle.std.proofs.Common.{◌≡◌, ◌≢◌, ◌⊎◌, ◌+◌, ◌-◌, ◌<◌, ◌≤◌, ℕ, suc, Bool, true, false, List, [], ◌∷◌, ◌++◌, All, length, get_or, take, drop, inl, inr, refl, sym, ap, ◌∙◌, ⊎_elim, arith, subst}
use Rattle.std.specs.List.{SameBelow, ShiftedDown}
use Rattle.std.specs.Prelude.{if◌then◌else◌}
use Rattle.std.proofs.lemmas.Bool.{cases_lt}
use Rattle.std.proofs.lemmas.List.Quantifiers.{all_pairs_push}
use Rattle.std.proofs.Math.Seq.{split_at}
use Rattle.fg_io.specs.OpenFiles.{AreApart, NoneComes, TakesOut}

-- where an element of what is left was: at its place, or one behind it
record WasAt {T : Type 0} (before after : List (ℕ × T)) (place k : ℕ) (d : ℕ × T) : Type 0 where
  index : ℕ
  same : (get_or after k d).0 ≡ (get_or before index d).0
  moved : ((k < place) × (index ≡ k)) ⊎ ((place ≤ k) × (index ≡ k + 1))

was_at : {T : Type 0} (before after : List (ℕ × T)) (place k : ℕ) (d : ℕ × T)
    → SameBelow before after place → ShiftedDown before after place → WasAt before after place k d
was_at before after place k d below behind =
    ⊎_elim
    (λ lt. record { index = k; same = ap (λ file. file.0) (below k d lt); moved = inl (lt, refl) })
    (λ le. record { index = k + 1; same = ap (λ file. file.0) (behind k d le); moved = inr (le, refl) })
    (cases_lt k place)

-- where one is taken out, no port has two among the others
pub AreApart-removed : {T : Type 0} (before after : List (ℕ × T)) (place : ℕ) → place < length before
    → SameBelow before after place → ShiftedDown before after place → length after + 1 ≡ length before
    → AreApart before → AreApart after
AreApart-removed before after place inside below behind shorter apart i j d lt within same =
    let one = was_at before after place i d below behind in
    let other = was_at before after place j d below behind in
    apart one.index other.index d (grind (arith, lt, one.moved, other.moved)) (grind (arith, other.moved, inside, within, shorter))
    (sym one.same ∙ same ∙ other.same)

-- and none of them is the port's
pub gone-removed : {T : Type 0} (before after : List (ℕ × T)) (place port : ℕ) → place < length before
    → ((d : ℕ × T) → (get_or before place d).0 ≡ port)
    → SameBelow before after place → ShiftedDown before after place → length after + 1 ≡ length before
    → AreApart before → All (λ held. held.0 ≢ port) after
gone-removed before after place port inside at below behind shorter apart k d within same =
    let one = was_at before after place k d below behind in
    let equal : (get_or before one.index d).0 ≡ (get_or before place d).0 = sym one.same ∙ same ∙ sym (at d) in
    ⊎_elim
    (λ front. apart one.index place d (omega (arith, front.0, front.1)) inside equal)
    (λ back. apart place one.index d (omega (arith, back.0, back.1)) (omega (arith, back.1, shorter, within)) (sym equal))
    one.moved

-- it is taken out
pub TakesOut-removed : {T : Type 0} (before after : List (ℕ × T)) (place port : ℕ) (held : ℕ × T) → place < length before
    → held ≡ get_or before place held → held.0 ≡ port → after ≡ take place before ++ drop (suc place) before
    → TakesOut before port held.1 after
TakesOut-removed before after place port held inside is its removed =
    record {
      front = take place before;
      back = drop (suc place) before;
      was = split_at before place held inside
          ∙ ap (λ file. take place before ++ file ∷ drop (suc place) before) (sym is ∙ ap (λ n. (n, held.1)) its);
      is = removed;
    }

-- where the file of a port is added that has none, no port has two
pub AreApart-pushed : {T : Type 0} (kept : Bool) (before after : List (ℕ × T)) (port : ℕ) (file : T)
    → after ≡ (if kept then before ++ (port, file) ∷ [] else before) → All (λ held. held.0 ≢ port) before
    → AreApart before → AreApart after
AreApart-pushed true before after port file is other apart =
    subst AreApart (sym is) (all_pairs_push (λ one other. one.0 ≢ other.0) before (port, file) apart other)
AreApart-pushed false before after port file is other apart = subst AreApart (sym is) apart

-- where the first is taken out, none comes
pub NoneComes-first : {T : Type 0} (before after : List (ℕ × T)) → ShiftedDown before after 0 → length after + 1 ≡ length before → NoneComes before after
NoneComes-first before after behind shorter = λ port none k d within same.
    none (k + 1) d (omega (arith, within, shorter)) (sym (ap (λ file. file.0) (behind k d (omega arith))) ∙ same)

-- Watched positions, and queued places.
use Rattle.std.proofs.Common.{◌≡◌, ◌/◌, ◌<◌, ◌≤◌, ℕ, Bool, true, false, List, get_or, replicate, inr, sym, subst, ◌∙◌, ⊎_elim, arith}
use Rattle.std.proofs.lemmas.Bool.{cases_lt}
use Rattle.std.proofs.lemmas.List.{length-replicate, get_or-replicate, get_or_past}
use Rattle.fg_buffer.specs.Watches.{AreWatches, nowhere}

not_queued : (place : ℕ) → get_or (replicate 512 false) place false ≡ true → ⊥
not_queued place is = ⊎_elim
    (λ (less : place < 512).
    let none = get_or-replicate 512 place false false less in
    let e : false ≡ true = sym none ∙ is in absurd (cc))
    (λ (past : 512 ≤ place).
    let size = length-replicate {A = Bool} 512 false in
    let none = get_or_past (replicate 512 false) place false (omega (arith, size, past)) in
    let e : false ≡ true = sym none ∙ is in absurd (cc))
    (cases_lt place 512)

nothing : (place : ℕ) → place < 512 → get_or (replicate 512 nowhere) place 0 ≡ nowhere
nothing place less = get_or-replicate 512 place nowhere 0 less

unbounded : (block : ℕ) → get_or (replicate 16 nowhere) block 0 ≤ nowhere
unbounded block = ⊎_elim
    (λ (less : block < 16). let is = get_or-replicate 16 block nowhere 0 less in omega (arith, is))
    (λ (past : 16 ≤ block).
    let size = length-replicate {A = ℕ} 16 nowhere in
    let none = get_or_past (replicate 16 nowhere) block 0 (omega (arith, size, past)) in
    omega (arith, none))
    (cases_lt block 16)

-- Nothing is watched or queued.
pub nothing_watched :
    (first second : List ℕ) (queued : List Bool) (leasts : List ℕ) → first ≡ replicate 512 nowhere
    → second ≡ replicate 512 nowhere → queued ≡ replicate 512 false → leasts ≡ replicate 16 nowhere
    → AreWatches first second queued leasts 512 0 0 nowhere 0
nothing_watched first second queued leasts one two three four =
    subst (λ (xs : List ℕ). AreWatches xs second queued leasts 512 0 0 nowhere 0) (sym one)
    (subst (λ (xs : List ℕ). AreWatches (replicate 512 nowhere) xs queued leasts 512 0 0 nowhere 0) (sym two)
    (subst (λ (bs : List Bool). AreWatches (replicate 512 nowhere) (replicate 512 nowhere) bs leasts 512 0 0 nowhere 0) (sym three)
    (subst (λ (xs : List ℕ). AreWatches (replicate 512 nowhere) (replicate 512 nowhere) (replicate 512 false) xs 512 0 0 nowhere 0) (sym four)
    (record {
      first_count = length-replicate {A = ℕ} 512 nowhere;
      second_count = length-replicate {A = ℕ} 512 nowhere;
      queued_count = length-replicate {A = Bool} 512 false;
      few = omega arith;
      among = λ place is. absurd (not_queued place is);
      within = omega arith;
      first_past = λ place from less. nothing place less;
      second_past = λ place from less. nothing place less;
      leasts_count = length-replicate {A = ℕ} 16 nowhere;
      leasts_most = unbounded;
      bounds = λ place less. (let is = nothing place less in let most = unbounded (place / 32) in omega (arith, is, most));
      not_before = λ place less. (let is = nothing place less in omega (arith, is));
      first_before = λ place less. inr (nothing place less);
      second_before = λ place less. inr (nothing place less);
    }))))

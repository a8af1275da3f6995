-- The losses that are drawn, one record after another.
use Rattle.std.proofs.Common.{◌≡◌, ℕ, suc, ◌+◌, ◌-◌, ◌%◌, ◌<◌, ◌≤◌, Bool, true, false, cond, ltb, List, [], ◌∷◌, ◌++◌, length, All, sym, ap, ◌∙◌, arith, append-nil, lt-ltb, le-ltb}
use Rattle.std.specs.List.{filter, range_with_len}
use Rattle.std.proofs.lemmas.List.Elements.{All-filter, filter-append}
use Rattle.std.proofs.lemmas.List.FromFn.{get_or-range_with_len, length-range_with_len}
use Rattle.std.proofs.lemmas.List.Sums.{count_by-le-length, length-filter}
use Rattle.rand_pcg.specs.Lcg.{Lcg, advance, next}
use Rattle.rand_pcg.specs.Pcg.{multiplier_64, output_xsh_rr, pcg32}
use Rattle.fg_encode.proofs.ListLemmas.{range_more}
use Rattle.fg_thin.specs.Drawn.{draw, drawn_drops}
use Rattle.fg_thin.specs.Made.{generator_of}
use Rattle.fg_thin.proofs.MadeLemmas.{advance_next}

-- Whether a record is left out.
abbrev pub is_drawn : ℕ → ℕ → ℕ → Bool
is_drawn seed loss number = ltb (draw (generator_of seed 55) (number - 1) % 100) loss

-- The generator before the draw of a record, and the records left out among those before.
abbrev pub generator_at : ℕ → ℕ → Lcg
generator_at seed number = advance 64 multiplier_64 (number - 1) (generator_of seed 55)

pub generator_next : (seed number word : ℕ) (old new : Lcg) → 1 ≤ number → old ≡ generator_at seed number → (let after : ℕ × Lcg = (word, new) in after) ≡ pcg32 old → new ≡ generator_at seed (number + 1)
generator_next seed number word old new least here drawn =
    let one : number - 1 + 1 ≡ number + 1 - 1 = omega arith in
    ap (λ (p : ℕ × Lcg). p.1) drawn
    ∙ ap (λ (g : Lcg). next 64 multiplier_64 g) here
    ∙ sym (advance_next (number - 1) (generator_of seed 55))
    ∙ ap (λ (n : ℕ). advance 64 multiplier_64 n (generator_of seed 55)) one

pub word_drawn : (seed number word : ℕ) (old new : Lcg) → old ≡ generator_at seed number → (let after : ℕ × Lcg = (word, new) in after) ≡ pcg32 old → word ≡ draw (generator_of seed 55) (number - 1)
word_drawn seed number word old new here drawn =
    ap (λ (p : ℕ × Lcg). p.0) drawn ∙ ap (λ (g : Lcg). output_xsh_rr g.state) here

drops_next : (p : ℕ → Bool) (number : ℕ) → 1 ≤ number
    → filter p (range_with_len 1 (number + 1 - 1)) ≡ filter p (range_with_len 1 (number - 1)) ++ cond (p number) (number ∷ []) []
drops_next p number least =
    let one : number + 1 - 1 ≡ suc (number - 1) = omega arith in
    let here : 1 + (number - 1) ≡ number = omega arith in
    ap (λ (n : ℕ). filter p (range_with_len 1 n)) one
    ∙ ap (λ (xs : List ℕ). filter p xs) (range_more 1 (number - 1))
    ∙ filter-append p (range_with_len 1 (number - 1)) ((1 + (number - 1)) ∷ [])
    ∙ ap (λ (n : ℕ). filter p (range_with_len 1 (number - 1)) ++ cond (p n) (n ∷ []) []) here

pub drops_taken : (seed loss number word : ℕ) (drops : List ℕ) → 1 ≤ number → word ≡ draw (generator_of seed 55) (number - 1) → word % 100 < loss
    → drops ≡ drawn_drops seed loss number → drops ++ number ∷ [] ≡ drawn_drops seed loss (number + 1)
drops_taken seed loss number word drops least drawn less before =
    let p = is_drawn seed loss in
    let passes : p number ≡ true = ap (λ (w : ℕ). ltb (w % 100) loss) (sym drawn) ∙ lt-ltb (word % 100) loss less in
    ap (λ (xs : List ℕ). xs ++ number ∷ []) before
    ∙ ap (λ (b : Bool). drawn_drops seed loss number ++ cond b (number ∷ []) []) (sym passes)
    ∙ sym (drops_next p number least)

pub drops_kept : (seed loss number word : ℕ) (drops : List ℕ) → 1 ≤ number → word ≡ draw (generator_of seed 55) (number - 1) → loss ≤ word % 100
    → drops ≡ drawn_drops seed loss number → drops ≡ drawn_drops seed loss (number + 1)
drops_kept seed loss number word drops least drawn more before =
    let p = is_drawn seed loss in
    let fails : p number ≡ false = ap (λ (w : ℕ). ltb (w % 100) loss) (sym drawn) ∙ le-ltb (word % 100) loss more in
    before
    ∙ sym (append-nil (drawn_drops seed loss number))
    ∙ ap (λ (b : Bool). drawn_drops seed loss number ++ cond b (number ∷ []) []) (sym fails)
    ∙ sym (drops_next p number least)

-- The numbers that are left out, and how many.
pub drops_number : (seed loss records : ℕ) → All (λ number. 1 ≤ number) (drawn_drops seed loss records)
drops_number seed loss records =
    All-filter (is_drawn seed loss) (λ number. 1 ≤ number) (range_with_len 1 (records - 1))
    (λ k d below.
    let there = length-range_with_len 1 (records - 1) in
    let within : k < records - 1 = omega arith in
    let is = get_or-range_with_len 1 (records - 1) k d within in
    omega arith)

pub drops_few : (seed loss records : ℕ) → length (drawn_drops seed loss records) ≤ records - 1
drops_few seed loss records =
    let all = range_with_len 1 (records - 1) in
    let kept = length-filter (is_drawn seed loss) all in
    let most = count_by-le-length (is_drawn seed loss) all in
    let there = length-range_with_len 1 (records - 1) in
    omega arith

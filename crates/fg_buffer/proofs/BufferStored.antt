-- Entries among more slots, so that they need seldom be moved.
use Rattle.std.proofs.Common.{◌≡◌, ◌+◌, ◌-◌, ◌<◌, ◌≤◌, ℕ, List, length, drop, get_or, set, sym, ap, ◌∙◌, ⊎_elim, arith, length-drop}
use Rattle.std.proofs.lemmas.Bool.{cases_lt, cases_eq}
use Rattle.std.proofs.lemmas.List.{ext_get_or, get_or-take, get_or-drop, get_or_past, get_or-set_same, get_or-set_other, length-set, length-take, set-set}
use Rattle.fg_peel.specs.declared.Slot.{Slot}
use Rattle.fg_peel.specs.declared.Slot.TheVariants.{Empty}
use Rattle.fg_buffer.specs.BufferEntries.{slack, live_entries, IsEmptyPast, AreStored}

pub live_long :
    (front : ℕ) (slots : List Slot) → front ≤ slack → slack ≤ length slots
    → length (live_entries front slots) ≡ length slots - slack
live_long front slots low some =
    omega (arith, length-take (length slots - slack) (drop front slots), length-drop front slots, low, some)

pub live_at :
    (front : ℕ) (slots : List Slot) → front ≤ slack → slack ≤ length slots → IsEmptyPast front slots → (k : ℕ)
    → get_or (live_entries front slots) k Empty ≡ get_or slots (front + k) Empty
live_at front slots low some past k = ⊎_elim
    (λ less. get_or-take (length slots - slack) (drop front slots) k Empty less ∙ get_or-drop front slots k Empty)
    (λ more.
    get_or_past (live_entries front slots) k Empty (omega (arith, more, live_long front slots low some))
    ∙ sym (past (front + k) (omega (arith, more))))
    (cases_lt k (length slots - slack))

module _ (front : ℕ) (slots : List Slot) (are : AreStored front slots) where
  pub stored_long : length (live_entries front slots) ≡ length slots - slack
  stored_long = live_long front slots are.near are.some

  pub stored_at : (k : ℕ) → get_or (live_entries front slots) k Empty ≡ get_or slots (front + k) Empty
  stored_at = live_at front slots are.near are.some are.past

-- the first entries are passed
module _
    (front count : ℕ) (old : List Slot) (are : AreStored front old) (front' : ℕ) (new : List Slot)
    (size : length new ≡ length old) (low : front' ≤ slack)
    (moved : (k : ℕ) → get_or new (front' + k) Empty ≡ get_or old (front + count + k) Empty)
  where
    some' : slack ≤ length new
    some' = omega (arith, are.some, size)

    past' : IsEmptyPast front' new
    past' k from =
        let at : front' + (k - front') ≡ k = omega (arith, from) in
        ap (λ (j : ℕ). get_or new j Empty) (sym at) ∙ moved (k - front')
        ∙ are.past (front + count + (k - front')) (omega (arith, from, size))

    pub same_long : length (live_entries front' new) ≡ length (live_entries front old)
    same_long = omega (arith, live_long front' new low some', stored_long front old are, size)

    pub live_moved : (k : ℕ) → get_or (live_entries front' new) k Empty ≡ get_or (live_entries front old) (k + count) Empty
    live_moved k =
        let at : front + count + k ≡ front + (k + count) = omega arith in
        live_at front' new low some' past' k ∙ moved k ∙ ap (λ (j : ℕ). get_or old j Empty) at
        ∙ sym (stored_at front old are (k + count))

    pub stored_moved : AreStored front' new
    stored_moved = record { near = low; some = some'; few = omega (arith, are.few, size); past = past' }

-- an entry is put
module _
    (front : ℕ) (old : List Slot) (are : AreStored front old) (i : ℕ) (entry : Slot) (inside : i < length (live_entries front old))
  where
    new_past : IsEmptyPast front (set old (front + i) entry)
    new_past k from =
        let long = length-set old (front + i) entry in
        get_or-set_other old (front + i) k entry Empty (omega (arith, from, inside, stored_long front old are, long))
        ∙ are.past k (omega (arith, from, long))

    pub stored_set : AreStored front (set old (front + i) entry)
    stored_set = record {
      near = are.near;
      some = omega (arith, are.some, length-set old (front + i) entry);
      few = omega (arith, are.few, length-set old (front + i) entry);
      past = new_past;
    }

    pub live_set : live_entries front (set old (front + i) entry) ≡ set (live_entries front old) i entry
    live_set =
        let long = length-set old (front + i) entry in
        let new_long = stored_long front (set old (front + i) entry) stored_set in
        ext_get_or Empty (live_entries front (set old (front + i) entry)) (set (live_entries front old) i entry)
        (omega (arith, long, length-set (live_entries front old) i entry, new_long, stored_long front old are))
        (λ k less.
        stored_at front (set old (front + i) entry) stored_set k
        ∙ ⊎_elim
        (λ same.
        ap (λ (j : ℕ). get_or (set old (front + i) entry) (front + j) Empty) same
        ∙ get_or-set_same old (front + i) entry Empty (omega (arith, inside, stored_long front old are, are.near, are.some))
        ∙ sym (ap (λ (j : ℕ). get_or (set (live_entries front old) i entry) j Empty) same
        ∙ get_or-set_same (live_entries front old) i entry Empty inside))
        (λ other.
        get_or-set_other old (front + i) (front + k) entry Empty (omega (arith, other))
        ∙ sym (stored_at front old are k)
        ∙ sym (get_or-set_other (live_entries front old) i k entry Empty other))
        (cases_eq k i))

-- An entry is put where what stood there was taken away.
pub put_live :
    (front : ℕ) (old cleared new view : List Slot) → AreStored front old → (i : ℕ) (entry : Slot) → i < length view
    → live_entries front old ≡ view → cleared ≡ set old (front + i) Empty → new ≡ set cleared (front + i) entry
    → live_entries front new ≡ set view i entry
put_live front old cleared new view are i entry within is clear put =
    let inside : i < length (live_entries front old) = omega (arith, within, ap (λ (ss : List Slot). length ss) is) in
    ap (live_entries front) (put ∙ ap (λ (ss : List Slot). set ss (front + i) entry) clear ∙ set-set old (front + i) Empty entry)
    ∙ live_set front old are i entry inside
    ∙ ap (λ (ss : List Slot). set ss i entry) is

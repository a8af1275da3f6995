-- What the words folded so far sum to, and what a pass was told of them.
use Rattle.std.proofs.Common.{◌≡◌, ◌↔◌, ◌≤◌, ◌++◌, ℕ, Bool, false, not, List, [], ◌∷◌, map, filter_map, Option, Some, None, IsSome, IsTrue, refl, sym, ap, subst, ◌∙◌, ⊎_elim, arith}
use Rattle.std.proofs.lemmas.Bool.{both_ways, cases_eq, cases_Bool, cond-true, cond-false, not-true, not_from_false}
use Rattle.std.proofs.lemmas.List.{map-append}
use Rattle.std.proofs.lemmas.List.Elements.{All-contains, All-weaker, All-contains_itself, Contains-append_left, Contains-append_right}
use Rattle.std.specs.Prelude.{IsSomeAnd, Ok, Err, length}
use Rattle.std.specs.List.{All, Contains, cons_option}
use Rattle.std.specs.Ordering.{nat_cmp}
use Rattle.std.specs.FinMap.{get, insert, empty, entries}
use Rattle.std.specs.FinSet as set
use Rattle.std.specs.FinSet.{contains, contains-empty}
use Rattle.fg_words.specs.declared.Word.{Word}
use Rattle.fg_words.specs.Word.{zero_word, word_xor, word_sum, HasRoom}
use Rattle.fg_words.proofs.WordLemmas.{word_xor_comm, word_xor_assoc, word_xor-zero}
use Rattle.fg_shape.specs.declared.Shape.{Shape}
use Rattle.fg_shape.specs.Shape.{IsShape, position_limit}
use Rattle.fg_peel.specs.declared.span.Missing.TheVariants.{One}
use Rattle.fg_peel.specs.Equation.{Equation, slots, others, sum_at, IsComplete}
use Rattle.fg_peel.specs.Slots.{IsMissing}
use Rattle.fg_peel.proofs.Lists.{Contains-here, Contains-there, Contains-cases, Contains-nil, Contains-map, Contains-from_map, Distinct, others-element}
use Rattle.fg_peel.proofs.Maps.{in_empty, nothing_in_empty, inserted, beside_inserted, get_of_entry, entry_of_get, was_or_inserted}
use Rattle.fg_peel.proofs.Options.{none_or_some, has_value, none_has_no_value}
use Rattle.fg_peel.proofs.Slots.{slots_distinct}
use Rattle.fg_peel.proofs.Sums.{sum_at-agree, sum_at-split}
use Rattle.fg_playout.specs.State.{Words}
use Rattle.fg_turn.specs.Standing.{Standing}
use Rattle.fg_core.specs.Board.{BoardState, JobState, equation_with, TellsEquation}
use Rattle.fg_core.specs.Codes.{Entry, told_code, told_from, ToldIsReadBack}
use Rattle.fg_core.specs.Core.{Event, look, offer, attest}
use Rattle.fg_core.specs.Views.{Told, word_at, equation_is, seen_of, told_of_job, IsWorked, IsChecked}
use Rattle.fg_core.specs.declared.key.Key.{Key}
use Rattle.fg_core.specs.declared.fate.Fate.{Fate}
use Rattle.fg_core.specs.declared.fate.Look.TheVariants as looked
use Rattle.fg_core.specs.declared.fate.Asked.TheVariants as asked
use Rattle.fg_board.specs.Actors.{TakesTurn}
use Rattle.fg_board.specs.Laws.{EachIsLater, JobsAreWorked, JobsAreChecked}
use Rattle.fg_board.proofs.Bringing.{without_slot}
use Rattle.fg_tally.specs.Folding.{FoldingState, nothing_folded, with_folded, missing_of}
use Rattle.fg_tally.specs.Tally.{IsPartOfSum, job_with, Begins, Settles}
use Rattle.fg_tally.specs.declared.answers.Begun.TheVariants as begun
use Rattle.fg_tally.proofs.Filtering.{kept, was_kept}
use Rattle.fg_tally.proofs.Bits.{has_inserted, beside_inserted as beside_in_set}

-- Sums

-- No words sum to zero.
nothing_at : (words : ℕ → Option Word) → ((q : ℕ) → words q ≡ None) → (xs : List ℕ) → filter_map words xs ≡ []
nothing_at words none [] = refl
nothing_at words none (x ∷ xs) =
    ap (λ (o : Option Word). cons_option o (filter_map words xs)) (none x) ∙ nothing_at words none xs

pub sum_of_none : (parity : Word) → HasRoom parity → (xs : List ℕ) → word_xor parity (sum_at (get (empty {X = Word} {R = nat_cmp})) xs) ≡ parity
sum_of_none parity room xs =
    ap (λ (ws : List Word). word_xor parity (word_sum ws)) (nothing_at (get (empty {X = Word} {R = nat_cmp})) in_empty xs)
    ∙ word_xor-zero parity room

-- One more word.
pub sum_with_one :
    (inputs : Words) (slot : ℕ) (word parity : Word) (xs : List ℕ) → Distinct xs → Contains xs slot → get inputs slot ≡ None
    → word_xor parity (sum_at (get (insert inputs slot word)) xs) ≡ word_xor (word_xor parity (sum_at (get inputs) xs)) word
sum_with_one inputs slot word parity xs distinct c none =
    let rest = sum_at (get inputs) xs in
    let split : sum_at (get (insert inputs slot word)) xs ≡ word_xor word rest =
    sum_at-split (get (insert inputs slot word)) slot word (inserted inputs slot word slot refl) xs distinct c
    ∙ ap (word_xor word)
    (sum_at-agree (get (insert inputs slot word)) (get inputs) (others slot xs)
    (λ q e. beside_inserted inputs slot word q (others-element slot xs q e).1)
    ∙ ap word_sum (without_slot (get inputs) slot none xs)) in
    ap (word_xor parity) (split ∙ word_xor_comm word rest) ∙ sym (word_xor_assoc parity rest word)

-- What was told

-- What was told is still told later.
pub still_told :
    (earlier later more : List Entry) → later ≡ earlier ++ more → (one : Told) → Contains (map told_from earlier) one
    → Contains (map told_from later) one
still_told earlier later more is one c =
    subst (λ (entries : List Entry). Contains (map told_from entries) one) (sym is)
    (subst (λ (ts : List Told). Contains ts one) (sym (map-append told_from earlier more))
    (Contains-append_left (map told_from earlier) (map told_from more) one c))

-- What a turn tells is told afterwards.
pub is_told :
    ToldIsReadBack → (earlier later : List Entry) (told : List Told) → later ≡ earlier ++ map told_code told → (one : Told)
    → Contains told one → Contains (map told_from later) one
is_told back earlier later told is one c =
    subst (λ (entries : List Entry). Contains (map told_from entries) one) (sym is)
    (subst (λ (ts : List Told). Contains ts one) (sym (map-append told_from earlier (map told_code told)))
    (Contains-append_right (map told_from earlier) (map told_from (map told_code told)) one
    (subst (Contains (map told_from (map told_code told))) (back one)
    (Contains-map told_from (map told_code told) (told_code one) (Contains-map told_code told one c)))))

-- The word that a look gave.
pub looked_is_told :
    ToldIsReadBack → (key : Key) (slot : ℕ) (word : Word) (old new : Standing BoardState)
    → TakesTurn (look key (Some slot) (looked.Known word)) old new → Contains (map told_from new.told) (word_at key.epoch slot word)
looked_is_told back key slot word old new turn =
    let one = word_at key.epoch slot word in
    let live = turn.tells in
    is_told back old.told new.told (seen_of turn.left ∷ turn.told) turn.told_is one
    (Contains-there (seen_of turn.left) turn.told one
    (subst (λ (ts : List Told). Contains ts one) (sym live.2)
    (Contains-there (equation_is key.serial live.0.equation) (one ∷ []) one (Contains-here one []))))

-- A job was told where its equation was, and each of its words.
module _ (told : List Told) (job : JobState) where
  abbrev tell : ℕ × Word → Told
  tell entry = word_at job.key.epoch entry.0 entry.1

  pub job_is_told :
      Contains told (equation_is job.key.serial job.equation)
      → ((slot : ℕ) (word : Word) → get job.inputs slot ≡ Some word → Contains told (word_at job.key.epoch slot word))
      → All (Contains told) (told_of_job job)
  job_is_told equation words =
      All-weaker (Contains (told_of_job job)) (Contains told) each (told_of_job job) (All-contains_itself (told_of_job job))
    where
      each : (one : Told) → Contains (told_of_job job) one → Contains told one
      each one c = ⊎_elim
          (λ same. subst (Contains told) (sym same) equation)
          (λ there.
          let e = Contains-from_map tell (entries job.inputs) one there in
          subst (Contains told) e.2 (words e.0.0 e.0.1 (get_of_entry job.inputs e.0 e.1)))
          (Contains-cases (equation_is job.key.serial job.equation) (map tell (entries job.inputs)) one c)

  pub equation_was_told : All (Contains told) (told_of_job job) → Contains told (equation_is job.key.serial job.equation)
  equation_was_told all =
      All-contains (Contains told) (told_of_job job) (equation_is job.key.serial job.equation) all
      (Contains-here (equation_is job.key.serial job.equation) (map tell (entries job.inputs)))

  pub word_was_told :
      All (Contains told) (told_of_job job) → (slot : ℕ) (word : Word) → get job.inputs slot ≡ Some word
      → Contains told (word_at job.key.epoch slot word)
  word_was_told all slot word is =
      All-contains (Contains told) (told_of_job job) (word_at job.key.epoch slot word) all
      (Contains-there (equation_is job.key.serial job.equation) (map tell (entries job.inputs)) (word_at job.key.epoch slot word)
      (Contains-map tell (entries job.inputs) (slot, word) (entry_of_get job.inputs slot word is)))

-- The equation that a start was told is the one that is held.
pub begins_live :
    (entered : Option BoardState) (key : Key) (base : ℕ) (shape : Shape) (parity : Word) (state : FoldingState)
    → IsSomeAnd entered (λ board. TellsEquation board key (asked.Live base shape parity))
    → state ≡ nothing_folded key (equation_with base shape parity)
    → IsSomeAnd entered (λ board. Begins board key begun.Held (Some state))
begins_live None key base shape parity state tells is = tells
begins_live (Some board) key base shape parity state tells is =
    (tells.0, tells.1, ap Some (is ∙ ap (nothing_folded key) (sym tells.2)))

pub begins_gone :
    (entered : Option BoardState) (key : Key) (mark epoch : ℕ)
    → IsSomeAnd entered (λ board. TellsEquation board key (asked.Gone mark epoch))
    → IsSomeAnd entered (λ board. Begins board key (begun.Gone mark epoch) None)
begins_gone None key mark epoch tells = tells
begins_gone (Some board) key mark epoch tells = refl

-- Parts of a sum

-- At first.
pub part_of_nothing :
    (pass : Standing BoardState) (key : Key) (equation : Equation) → IsShape equation.offset equation.count
    → equation.base ≤ position_limit → HasRoom equation.parity → Contains (map told_from pass.told) (equation_is key.serial equation)
    → IsPartOfSum pass (nothing_folded key equation)
part_of_nothing pass key equation shape near room told = record {
  shape = shape;
  near = near;
  slots_are = λ slot is. absurd (both_ways (contains (set.empty {R = nat_cmp}) slot) (contains-empty nat_cmp slot) is);
  inputs = empty;
  inputs_are = λ slot. (
    λ is. absurd (both_ways (contains (set.empty {R = nat_cmp}) slot) (contains-empty nat_cmp slot) is),
    λ some. absurd (none_has_no_value (get (empty {X = Word} {R = nat_cmp}) slot) (in_empty slot) some),
  );
  told = job_is_told (map told_from pass.told) (record { key = key; equation = equation; inputs = empty }) told
      (λ slot word is. absurd (nothing_in_empty slot word is));
  room = (room, λ slot word is. absurd (nothing_in_empty slot word is));
  remainder_is = sym (sum_of_none equation.parity room (slots equation));
}

-- At a later standing.
pub part_stays :
    (old new : Standing BoardState) (more : List Entry) → new.told ≡ old.told ++ more → (state : FoldingState)
    → IsPartOfSum old state → IsPartOfSum new state
part_stays old new more is state part =
    let job = job_with state part.inputs in
    let all : All (Contains (map told_from old.told)) (told_of_job job) = part.told in
    record {
      shape = part.shape;
      near = part.near;
      slots_are = part.slots_are;
      inputs = part.inputs;
      inputs_are = part.inputs_are;
      told = job_is_told (map told_from new.told) job
          (still_told old.told new.told more is (equation_is state.key.serial state.equation)
          (equation_was_told (map told_from old.told) job all))
          (λ slot word e.
          still_told old.told new.told more is (word_at state.key.epoch slot word)
          (word_was_told (map told_from old.told) job all slot word e));
      room = part.room;
      remainder_is = part.remainder_is;
    }

module _ (pass : Standing BoardState) (state : FoldingState) (part : IsPartOfSum pass state) where
  -- A slot that isn't folded has no word.
  pub unfolded_has_none : (slot : ℕ) → contains state.folded slot ≡ false → get part.inputs slot ≡ None
  unfolded_has_none slot isnt = ⊎_elim
      (λ none. none)
      (λ some.
      absurd (both_ways (contains state.folded slot) isnt
      ((part.inputs_are slot).1 (has_value (get part.inputs slot) some.0 some.1))))
      (none_or_some (get part.inputs slot))

  -- With the word of a slot that isn't.
  more_folded :
      (slot : ℕ) (word : Word) → contains state.folded slot ≡ false → Contains (slots state.equation) slot → HasRoom word
      → Contains (map told_from pass.told) (word_at state.key.epoch slot word)
      → IsPartOfSum pass (record state { folded = set.insert state.folded slot; remainder = word_xor state.remainder word })
  more_folded slot word isnt c room told =
      let job = job_with state part.inputs in
      let all : All (Contains (map told_from pass.told)) (told_of_job job) = part.told in
      let more = insert part.inputs slot word in
      record {
        shape = part.shape;
        near = part.near;
        slots_are = λ other is. ⊎_elim
            (λ same. subst (Contains (slots state.equation)) (sym same) c)
            (λ was. part.slots_are other was)
            (was_or_inserted state.folded slot other is);
        inputs = more;
        inputs_are = λ other. ⊎_elim
            (λ same. (
              λ _. has_value (get more other) word (inserted part.inputs slot word other same),
              λ _. has_inserted state.folded slot other same,
            ))
            (λ apart. (
              λ is. subst IsSome (sym (beside_inserted part.inputs slot word other apart))
                  ((part.inputs_are other).0 (sym (beside_in_set state.folded slot other apart) ∙ is)),
              λ some. beside_in_set state.folded slot other apart
                  ∙ (part.inputs_are other).1 (subst IsSome (beside_inserted part.inputs slot word other apart) some),
            ))
            (cases_eq other slot);
        told = job_is_told (map told_from pass.told) (record job { inputs = more })
            (equation_was_told (map told_from pass.told) job all)
            (λ other known is. ⊎_elim
            (λ same.
            let both : Some word ≡ Some known = sym (inserted part.inputs slot word other same) ∙ is in
            let value : word ≡ known = (cc) in
            subst (λ (w : Word). Contains (map told_from pass.told) (word_at state.key.epoch other w)) value
            (subst (λ (q : ℕ). Contains (map told_from pass.told) (word_at state.key.epoch q word)) (sym same) told))
            (λ apart.
            word_was_told (map told_from pass.told) job all other known
            (sym (beside_inserted part.inputs slot word other apart) ∙ is))
            (cases_eq other slot));
        room = (
          part.room.0,
          λ other known is. ⊎_elim
              (λ same.
              let both : Some word ≡ Some known = sym (inserted part.inputs slot word other same) ∙ is in
              let value : word ≡ known = (cc) in
              subst HasRoom value room)
              (λ apart. part.room.1 other known (sym (beside_inserted part.inputs slot word other apart) ∙ is))
              (cases_eq other slot),
        );
        remainder_is = ap (λ (w : Word). word_xor w word) part.remainder_is
            ∙ sym (sum_with_one part.inputs slot word state.equation.parity (slots state.equation)
            (slots_distinct state.equation part.shape.some_offset) c (unfolded_has_none slot isnt));
      }

  -- With the word of a slot, which is folded once.
  pub part_with :
      (slot : ℕ) (word : Word) → Contains (slots state.equation) slot → HasRoom word
      → Contains (map told_from pass.told) (word_at state.key.epoch slot word)
      → IsPartOfSum pass (with_folded state slot word)
  part_with slot word c room told =
      let added : FoldingState = record state { folded = set.insert state.folded slot; remainder = word_xor state.remainder word } in
      ⊎_elim
      (λ is. subst (IsPartOfSum pass) (sym (cond-true (contains state.folded slot) state added is)) part)
      (λ isnt. subst (IsPartOfSum pass) (sym (cond-false (contains state.folded slot) state added isnt))
      (more_folded slot word isnt c room told))
      (cases_Bool (contains state.folded slot))

  -- Where no other slot is missing, each other has a word.
  folded_has_some : (slot : ℕ) → Contains (slots state.equation) slot → (Contains (missing_of state) slot → ⊥) → IsSome (get part.inputs slot)
  folded_has_some slot c isnt = ⊎_elim
      (λ is. (part.inputs_are slot).0 is)
      (λ out.
      absurd (isnt (kept (λ other. not (contains state.folded other)) (slots state.equation) slot c
      (not_from_false (contains state.folded slot) out))))
      (cases_Bool (contains state.folded slot))

  pub all_have : missing_of state ≡ [] → IsComplete (get part.inputs) state.equation
  all_have none slot c =
      folded_has_some slot c (λ m. Contains-nil slot (subst (λ (xs : List ℕ). Contains xs slot) none m))

  pub one_misses : (slot : ℕ) → missing_of state ≡ slot ∷ [] → IsMissing (get part.inputs) state.equation (One slot)
  one_misses slot one =
      let r = was_kept (λ other. not (contains state.folded other)) (slots state.equation) slot
      (subst (λ (xs : List ℕ). Contains xs slot) (sym one) (Contains-here slot [])) in (
        r.0,
        unfolded_has_none slot (not-true (contains state.folded slot) r.1),
        λ other c apart.
            folded_has_some other c
            (λ m. ⊎_elim apart (Contains-nil other)
            (Contains-cases slot [] other (subst (λ (xs : List ℕ). Contains xs other) one m))),
      )

  -- So the remainder may be offered,
  pub remainder_is_worked :
      EachIsLater → JobsAreWorked → (slot : ℕ) → missing_of state ≡ slot ∷ []
      → (equation : Equation) × IsWorked (map told_from pass.told) state.key equation slot state.remainder
  remainder_is_worked each worked slot one = (
    state.equation,
    subst (IsWorked (map told_from pass.told) state.key state.equation slot) (sym part.remainder_is)
        (worked (record { taken = pass; job = job_with state part.inputs }) pass slot part.told (each pass)
        (one_misses slot one)),
  )

  -- and whether it is zero attested.
  pub remainder_is_checked :
      EachIsLater → JobsAreChecked → (comes_out : Bool) → missing_of state ≡ [] → IsTrue comes_out ↔ (state.remainder ≡ zero_word)
      → (equation : Equation) × IsChecked (map told_from pass.told) state.key equation comes_out
  remainder_is_checked each checked comes_out none says = (
    state.equation,
    checked (record { taken = pass; job = job_with state part.inputs }) pass comes_out part.told (each pass) part.room
        (all_have none) (
          λ is. sym part.remainder_is ∙ says.0 is,
          λ is. says.1 (part.remainder_is ∙ is),
        ),
  )

-- Turns

pub part_after :
    (event : Event) (old new : Standing BoardState) → TakesTurn event old new → (state : FoldingState) → IsPartOfSum old state
    → IsPartOfSum new state
part_after event old new turn state part =
    part_stays old new (map told_code (seen_of turn.left ∷ turn.told)) turn.told_is state part

-- After a look that gave a word.
pub part_after_look :
    ToldIsReadBack → (key : Key) (slot : ℕ) (word : Word) (old new : Standing BoardState)
    → TakesTurn (look key (Some slot) (looked.Known word)) old new → (state : FoldingState) → state.key ≡ key
    → Contains (slots state.equation) slot → HasRoom word → IsPartOfSum old state → IsPartOfSum new (with_folded state slot word)
part_after_look back key slot word old new turn state key_is c room part =
    part_with new state (part_after (look key (Some slot) (looked.Known word)) old new turn state part) slot word c room
    (subst (λ (k : Key). Contains (map told_from new.told) (word_at k.epoch slot word)) (sym key_is)
    (looked_is_told back key slot word old new turn))

-- Settles, by the slots that are missing.
module _ (E : Type 0) (state : FoldingState) (missing : List ℕ) (old new : Standing BoardState) where
  pub settles_whole :
      missing ≡ [] → (comes_out : Bool) → IsTrue comes_out ↔ (state.remainder ≡ zero_word) → (fate : Fate)
      → TakesTurn (attest state.key comes_out fate) old new → Settles {E = E} state missing (Ok (Some fate)) old new
  settles_whole none comes_out says fate turn =
      subst (λ (xs : List ℕ). Settles {E = E} state xs (Ok (Some fate)) old new) (sym none) (comes_out, says, turn)

  pub settles_last :
      (slot : ℕ) → missing ≡ slot ∷ [] → (fate : Fate) → TakesTurn (offer state.key slot state.remainder fate) old new
      → Settles {E = E} state missing (Ok (Some fate)) old new
  settles_last slot one fate turn =
      subst (λ (xs : List ℕ). Settles {E = E} state xs (Ok (Some fate)) old new) (sym one) turn

  pub settles_no_memory : (slot : ℕ) → missing ≡ slot ∷ [] → (error : E) → new ≡ old → Settles {E = E} state missing (Err error) old new
  settles_no_memory slot one error same =
      subst (λ (xs : List ℕ). Settles {E = E} state xs (Err error) old new) (sym one) same

pub settles_later :
    (E : Type 0) (state : FoldingState) (missing : List ℕ) (pass : Standing BoardState) → 2 ≤ length missing
    → Settles {E = E} state missing (Ok None) pass pass
settles_later E state [] pass more = absurd (omega (arith, more))
settles_later E state (slot ∷ []) pass more = absurd (omega (arith, more))
settles_later E state (slot ∷ next ∷ rest) pass more = refl

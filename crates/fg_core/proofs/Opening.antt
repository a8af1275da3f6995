-- Which live equations are open, and the work of one that is.
use Rattle.std.proofs.Common.{◌≡◌, ◌⊎◌, ◌+◌, ◌<◌, ◌≤◌, ℕ, Bool, true, false, List, [], ◌∷◌, ◌++◌, map, length, get_or, Option, Some, None, IsSome, IfSome, inl, inr, refl, sym, ap, subst, ◌∙◌, ⊎_elim, arith}
use Rattle.std.proofs.lemmas.Bool.{cases_eq, cases_lt, cases_Bool, cond-true, cond-false}
use Rattle.std.proofs.lemmas.Option.{same_Some, none-some}
use Rattle.std.proofs.lemmas.List.{get_or_append_left, get_or_push, get_or_past, length-append}
use Rattle.std.specs.List.{Contains}
use Rattle.std.specs.FinMap.{get}
use Rattle.std.specs.FinSet.{contains}
use Rattle.slab.specs.Slab.{Slab, entries}
use Rattle.fg_words.specs.declared.Word.{Word}
use Rattle.fg_words.specs.Word.{HasRoom}
use Rattle.fg_shape.specs.Shape.{IsShape}
use Rattle.fg_shape.proofs.ShapeLemmas.{get_or-slots_of, slot_of_number, number_of_slot, slots_apart}
use Rattle.fg_peel.specs.declared.Line.{Line}
use Rattle.fg_peel.specs.declared.span.Missing.TheVariants.{One}
use Rattle.fg_peel.specs.Equation.{Equation, slots, IsComplete}
use Rattle.fg_peel.specs.Slots.{equation_of, lines_of, IsMissing}
use Rattle.fg_peel.proofs.Lists.{Contains-here, Contains-there, Contains-cases, Contains-nil}
use Rattle.fg_peel.proofs.Options.{value_of, has_value, none_has_no_value, or_first}
use Rattle.fg_playout.specs.State.{Live, known}
use Rattle.fg_playout.specs.Facts.{Holds}
use Rattle.fg_buffer.specs.LiveEquations.{live_of}
use Rattle.fg_desk.specs.Contents.{Contents, known_in, shared_at}
use Rattle.fg_core.specs.Board.{BoardState, JobState, IsOpen, IsCurrent, IsJobOf}
use Rattle.fg_core.specs.Work.{job_of, IsWork, MissOne, inputs_from}
use Rattle.fg_core.specs.Flow.{says, note_at, noted, is_vouched, is_handed_out, board_of, BareAreKept, IsWithin, AreShared, IsOpenLine, IsKeyOfOpen, IsAtMost, AreSharesAt, IsReady}
use Rattle.fg_core.specs.declared.key.Key.{Key}
use Rattle.fg_core.specs.declared.notes.Note.{Note}
use Rattle.fg_core.proofs.Inputs.{input_of_number, input_is_slot}
use Rattle.fg_playout.proofs.Orderly.{known_below}
use Rattle.fg_core.proofs.Noting.{noted_is}

-- Shares

module _ (desk : Contents) (position : ℕ) where
  -- A word that has a share doesn't stand alone, and one that has none does.
  pub shared_not_bare : IsSome (shared_at desk position) → contains desk.bare position ≡ false
  shared_not_bare has = ⊎_elim
      (λ bare. absurd (none_has_no_value (shared_at desk position) (cond-true (contains desk.bare position) None (known_in desk position) bare) has))
      (λ not_bare. not_bare)
      (cases_Bool (contains desk.bare position))

  pub shared_is : contains desk.bare position ≡ false → shared_at desk position ≡ known_in desk position
  shared_is not_bare = cond-false (contains desk.bare position) None (known_in desk position) not_bare

  pub not_alone : IsSome (known_in desk position) → shared_at desk position ≡ None → contains desk.bare position ≡ false → ⊥
  not_alone has none not_bare = none_has_no_value (known_in desk position) (sym (shared_is not_bare) ∙ none) has

-- A word of a list of slots is at the slot of its number.
pub shared_below :
    (desk : Contents) (line : Line)
    → ((k : ℕ) → k < line.shape.na → IsSome (known_in desk (get_or (slots (equation_of line)) k 0))
    → contains desk.bare (get_or (slots (equation_of line)) k 0) ≡ false)
    → AreShared desk line
shared_below desk line each slot c =
    let n = number_of_slot line.base line.shape.offset line.shape.na slot c in
    let same : get_or (slots (equation_of line)) n.0 0 ≡ slot = get_or-slots_of line.base line.shape.offset line.shape.na n.0 0 n.1 ∙ sym n.2 in
    subst (λ (s : ℕ). IsSome (known_in desk s) → contains desk.bare s ≡ false) same (each n.0 n.1)

pub slot_there : (line : Line) (j : ℕ) → j < line.shape.na → Contains (slots (equation_of line)) (get_or (slots (equation_of line)) j 0)
slot_there line j below =
    subst (λ (s : ℕ). Contains (slots (equation_of line)) s) (sym (get_or-slots_of line.base line.shape.offset line.shape.na j 0 below))
    (slot_of_number line.base line.shape.offset line.shape.na j below)

-- One more share.
pub one_more_share :
    (desk : Contents) (line : Line) (count : ℕ) (shares : List (Option Word)) (share : Option Word)
    → share ≡ shared_at desk (get_or (slots (equation_of line)) count 0)
    → ((word : Word) → share ≡ Some word → HasRoom word) → AreSharesAt desk line count shares
    → AreSharesAt desk line (count + 1) (shares ++ share ∷ [])
one_more_share desk line count shares share is room so_far =
    let long = length-append shares (share ∷ []) in
    let size = so_far.count_is in
    record {
      count_is = omega (arith, long, size);
      each = λ j below. ⊎_elim
          (λ same. subst (λ (k : ℕ). get_or (shares ++ share ∷ []) k None ≡ shared_at desk (get_or (slots (equation_of line)) k 0)) (sym same)
          (pushed count size ∙ is))
          (λ before. (
          let less : j < count = omega (arith, before, below) in
          get_or_append_left shares (share ∷ []) None j (omega (arith, less, size)) ∙ so_far.each j less
          ))
          (cases_eq j count);
      rooms = λ j word at. ⊎_elim
          (λ same. room word (sym (pushed j (size ∙ sym same)) ∙ at))
          (λ other. ⊎_elim
          (λ less. so_far.rooms j word (sym (get_or_append_left shares (share ∷ []) None j (omega (arith, less, size))) ∙ at))
          (λ past. absurd (none-some word (sym (beyond j (omega (arith, other, past, size))) ∙ at)))
          (cases_lt j count))
          (cases_eq j count);
    }
  where
    pushed : (k : ℕ) → length shares ≡ k → get_or (shares ++ share ∷ []) k None ≡ share
    pushed k same = get_or_push shares share None k same

    beyond : (k : ℕ) → length shares < k → get_or (shares ++ share ∷ []) k None ≡ None
    beyond k past =
        (let long = length-append shares (share ∷ []) in get_or_past (shares ++ share ∷ []) k None (omega (arith, long, past)))

-- A walk through lines

abbrev pub lines_in : List (ℕ × Line) → List Line
lines_in rest = map (λ entry. entry.1) rest

-- The lines that are left are among them, and each of the others is done.
pub record Walks (lines : Slab Line) (IsDone : Line → Type 0) (rest : List (ℕ × Line)) : Type 0 where
  pub left : (line : Line) → Contains (lines_in rest) line → Contains (lines_of lines) line
  pub others : (line : Line) → Contains (lines_of lines) line → Contains (lines_in rest) line ⊎ IsDone line

module _ (lines : Slab Line) where
  pub walk_begins : (IsDone : Line → Type 0) (rest : List (ℕ × Line)) → rest ≡ entries lines → Walks lines IsDone rest
  walk_begins IsDone rest whole = record { left = λ line c. rw whole at c; others = λ line c. inl (rw whole c) }

  pub walk_here :
      (IsDone : Line → Type 0) (all : List (ℕ × Line)) (entry : ℕ × Line) (rest : List (ℕ × Line)) → all ≡ entry ∷ rest
      → Walks lines IsDone all → Contains (lines_of lines) entry.1
  walk_here IsDone all entry rest cut walks = walks.left entry.1 (rw cut (Contains-here entry.1 (lines_in rest)))

  pub walk_goes_on :
      (IsDone IsDone' : Line → Type 0) (all : List (ℕ × Line)) (entry : ℕ × Line) (rest : List (ℕ × Line)) → all ≡ entry ∷ rest
      → ((line : Line) → IsDone line → IsDone' line) → IsDone' entry.1 → Walks lines IsDone all → Walks lines IsDone' rest
  walk_goes_on IsDone IsDone' all entry rest cut more here walks = record {
    left = λ line c. walks.left line (rw cut (Contains-there entry.1 (lines_in rest) line c));
    others = λ line c. ⊎_elim
        (λ left. ⊎_elim
        (λ first. inr (subst IsDone' (sym first) here))
        (λ later. inl later)
        (Contains-cases entry.1 (lines_in rest) line (rw cut at left)))
        (λ done. inr (more line done))
        (walks.others line c);
  }

  pub walk_ends :
      (IsDone : Line → Type 0) (rest : List (ℕ × Line)) → rest ≡ [] → Walks lines IsDone rest → (line : Line)
      → Contains (lines_of lines) line → IsDone line
  walk_ends IsDone rest none walks line c =
      ⊎_elim (λ left. absurd (Contains-nil line (rw none at left))) (λ done. done) (walks.others line c)

-- The best key so far

at_most_lower :
    (best : Option Key) (key : Key) (n : ℕ) → IfSome best (λ other. key.serial < other.serial) → IsAtMost best n
    → IsAtMost (Some key) n
at_most_lower None key n less at = absurd at
at_most_lower (Some other) key n less at = omega (arith, less, at)

pub at_most_through : (best better : Option Key) (n : ℕ) → IfSome best (λ b. IsAtMost better b.serial) → IsAtMost best n → IsAtMost better n
at_most_through None better n lower at = absurd at
at_most_through (Some b) None n lower at = absurd lower
at_most_through (Some b) (Some key) n lower at = omega (arith, lower, at)

at_most_itself : (best : Option Key) → IfSome best (λ b. IsAtMost best b.serial)
at_most_itself None = tt
at_most_itself (Some b) = omega arith

lower_all :
    (first best : Option Key) (key : Key) → IfSome best (λ other. key.serial < other.serial)
    → IfSome first (λ b. IsAtMost best b.serial) → IfSome first (λ b. IsAtMost (Some key) b.serial)
lower_all None best key less lower = tt
lower_all (Some b) best key less lower = at_most_lower best key b.serial less lower

module _ (desk : Contents) (notes : List Note) (lines : Slab Line) (first : Option Key) where
  -- It is open, and no later one than the first or any line that was passed and is open.
  pub record IsBest (best : Option Key) (rest : List (ℕ × Line)) : Type 0 where
    pub opened : IfSome best (IsKeyOfOpen (board_of desk notes))
    pub lower : IfSome first (λ b. IsAtMost best b.serial)
    pub walks : Walks lines (λ line. IsOpenLine desk notes line → IsAtMost best line.serial) rest

  pub best_at_first : IfSome first (IsKeyOfOpen (board_of desk notes)) → (rest : List (ℕ × Line)) → rest ≡ entries lines → IsBest first rest
  best_at_first opened rest whole = record {
    opened = opened;
    lower = at_most_itself first;
    walks = walk_begins lines (λ line. IsOpenLine desk notes line → IsAtMost first line.serial) rest whole;
  }

  module _ (best : Option Key) (all : List (ℕ × Line)) (entry : ℕ × Line) (rest : List (ℕ × Line)) (cut : all ≡ entry ∷ rest) (is : IsBest best all) where
    pub line_here : Contains (lines_of lines) entry.1
    line_here = walk_here lines (λ line. IsOpenLine desk notes line → IsAtMost best line.serial) all entry rest cut is.walks

    pub best_passed : (IsOpenLine desk notes entry.1 → IsAtMost best entry.1.serial) → IsBest best rest
    best_passed here = record {
      opened = is.opened;
      lower = is.lower;
      walks = walk_goes_on lines (λ line. IsOpenLine desk notes line → IsAtMost best line.serial)
          (λ line. IsOpenLine desk notes line → IsAtMost best line.serial) all entry rest cut (λ line done. done) here is.walks;
    }

    pub best_found :
        IfSome best (λ b. entry.1.serial < b.serial) → IsWithin desk entry.1 → IsOpenLine desk notes entry.1 → (key : Key)
        → key ≡ record { place = entry.1.place; serial = entry.1.serial; epoch = desk.epoch } → IsBest (Some key) rest
    best_found less within opened key key_is =
        subst (λ (k : Key). IsBest (Some k) rest) (sym key_is)
        (let own : Key = record { place = entry.1.place; serial = entry.1.serial; epoch = desk.epoch } in
        record {
          opened = (live_of entry.1, opened, record { live_is = within.live_is; place_is = refl; epoch_is = refl });
          lower = lower_all first best own less is.lower;
          walks = walk_goes_on lines (λ line. IsOpenLine desk notes line → IsAtMost best line.serial)
              (λ line. IsOpenLine desk notes line → IsAtMost (Some own) line.serial) all entry rest cut
              (λ line done is_open. at_most_lower best own line.serial less (done is_open)) (λ is_open. omega arith) is.walks;
        })

-- Whether a line is open

bare_known : (desk : Contents) → Holds desk.state → BareAreKept desk → (slot : ℕ) → contains desk.bare slot ≡ true → IsSome (known_in desk slot)
bare_known desk facts bare slot is =
    let kept = value_of (get desk.state.kept slot) (bare slot is) in
    has_value (known_in desk slot) kept.0
    (or_first (known desk.state slot) (get desk.solved slot) kept.0
    (known_below desk.state slot (facts.kept slot kept.0 kept.1).below ∙ kept.1))

pub one_not_complete : (words : ℕ → Option Word) (equation : Equation) (slot : ℕ) → IsMissing words equation (One slot) → IsComplete words equation → ⊥
one_not_complete words equation slot one complete = none_has_no_value (words slot) one.1 (complete slot one.0)

module _
    (desk : Contents) (notes : List Note) (line : Line) (facts : Holds desk.state) (within : IsWithin desk line) (bare : BareAreKept desk)
    (note : Note) where
  pub flag_is :
      (which : Note → Bool) (key : Key) → key ≡ record { place = line.place; serial = line.serial; epoch = desk.epoch }
      → which note ≡ says which key.epoch key.serial (note_at notes key.place)
      → contains (noted which notes desk) line.serial ≡ which note
  flag_is which key key_is is =
      noted_is which notes desk line.serial (live_of line) (facts.live line.serial (live_of line) within.live_is).numbered within.live_is
      ∙ sym (is ∙ ap (λ (k : Key). says which k.epoch k.serial (note_at notes k.place)) key_is)

  pub opens :
      contains (noted is_handed_out notes desk) line.serial ≡ false → AreShared desk line
      → ((slot : ℕ) × IsMissing (known_in desk) (equation_of line) (One slot))
      ⊎ (IsComplete (known_in desk) (equation_of line) × (contains (noted is_vouched notes desk) line.serial ≡ false))
      → IsOpenLine desk notes line
  opens free shared work = record {
    live_is = within.live_is;
    free = free;
    shared = λ slot c. ⊎_elim
        (λ is. shared slot c (bare_known desk facts bare slot is))
        (λ is_not. is_not)
        (cases_Bool (contains desk.bare slot));
    work = work;
  }

-- The work of an open equation

-- The line at the place of a key is that of its equation.
pub ready_line :
    (desk : Contents) → Holds desk.state → (key : Key) (live : Live) → IsReady desk key live → (line : Line)
    → get desk.state.equations line.serial ≡ Some (live_of line) → line.place ≡ key.place → live_of line ≡ live
ready_line desk facts key live ready line is place = ⊎_elim
    (λ same. same_Some (live_of line) live (sym is ∙ ap (get desk.state.equations) same ∙ ready.live_is))
    (λ other. absurd ((facts.apart line.serial key.serial (live_of line) live is ready.live_is other).places (place ∙ sym ready.place_is)))
    (cases_eq line.serial key.serial)

module _
    (desk : Contents) (key : Key) (line : Line) (ready : IsReady desk key (live_of line)) (read : IsShape line.shape.offset line.shape.na)
    (shares : List (Option Word)) (at : AreSharesAt desk line line.shape.na shares) where
  known_here : (j : ℕ) → j < line.shape.na → get_or shares j None ≡ known_in desk (get_or (slots (equation_of line)) j 0)
  known_here j below =
      at.each j below
      ∙ shared_is desk (get_or (slots (equation_of line)) j 0) (ready.shared (get_or (slots (equation_of line)) j 0) (slot_there line j below))

  miss_one : MissOne shares
  miss_one i j below below' none none' =
      let size = at.count_is in
      let i_in : i < line.shape.na = omega (arith, below, size) in
      let j_in : j < line.shape.na = omega (arith, below', size) in
      let unknown = sym (known_here i i_in) ∙ none in
      let unknown' = sym (known_here j j_in) ∙ none' in
      ⊎_elim
      (λ one.
      let this = only_one one.0 one.1 (get_or (slots (equation_of line)) i 0) (slot_there line i i_in) unknown in
      let that = only_one one.0 one.1 (get_or (slots (equation_of line)) j 0) (slot_there line j j_in) unknown' in
      slots_apart line.base line.shape.offset i j read.some_offset
      (sym (get_or-slots_of line.base line.shape.offset line.shape.na i 0 i_in) ∙ this ∙ sym that
      ∙ get_or-slots_of line.base line.shape.offset line.shape.na j 0 j_in))
      (λ complete.
      absurd (none_has_no_value (known_in desk (get_or (slots (equation_of line)) i 0)) unknown
      (complete (get_or (slots (equation_of line)) i 0) (slot_there line i i_in))))
      ready.work
    where
      only_one :
          (slot : ℕ) → IsMissing (known_in desk) (equation_of line) (One slot) → (other : ℕ) → Contains (slots (equation_of line)) other
          → known_in desk other ≡ None → other ≡ slot
      only_one slot one other c none = ⊎_elim
          (λ same. same)
          (λ differs. absurd (none_has_no_value (known_in desk other) none (one.2 other c differs)))
          (cases_eq other slot)

  pub are_work : (parity : Word) → line.base ≤ 4611686018427387904 → HasRoom parity → IsWork line.base line.shape parity shares
  are_work parity near room = record {
    read = read;
    near = near;
    count = at.count_is;
    one = miss_one;
    parity_room = room;
    rooms = at.rooms;
  }

  pub job_is : (parity : Word) → parity ≡ line.parity → IsJobOf (board_of desk []) (live_of line) (job_of key line.base line.shape parity shares)
  job_is parity is = record {
    current = record { live_is = ready.live_is; place_is = ready.place_is; epoch_is = ready.epoch_is };
    equation_is = λ i. record { base = line.base; offset = line.shape.offset; count = line.shape.na; parity = is i };
    inputs_are = λ slot c. (
        let n = number_of_slot line.base line.shape.offset line.shape.na slot c in
        let same : get_or (slots (equation_of line)) n.0 0 ≡ slot = get_or-slots_of line.base line.shape.offset line.shape.na n.0 0 n.1 ∙ sym n.2 in
        subst (λ (s : ℕ). get (inputs_from line.base line.shape.offset shares) s ≡ known_in desk s) same
        (input_of_number line.base line.shape.offset line.shape.na shares read.some_offset at.count_is n.0 n.1 ∙ known_here n.0 n.1)
        );
    only = λ slot has. input_is_slot line.base line.shape.offset line.shape.na shares read.some_offset at.count_is slot has;
  }

pub ready_of : (board : BoardState) (key : Key) (live : Live) → IsOpen board key.serial live → IsCurrent board key live → IsReady board.desk key live
ready_of board key live opened current = record {
  live_is = current.live_is;
  place_is = current.place_is;
  epoch_is = current.epoch_is;
  shared = opened.shared;
  work = ⊎_elim (λ one. inl one) (λ all. inr all.0) opened.work;
}

pub job_on : (board : BoardState) (live : Live) (job : JobState) → IsJobOf (board_of board.desk []) live job → IsJobOf board live job
job_on board live job is = record {
  current = record { live_is = is.current.live_is; place_is = is.current.place_is; epoch_is = is.current.epoch_is };
  equation_is = is.equation_is;
  inputs_are = is.inputs_are;
  only = is.only;
}

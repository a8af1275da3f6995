-- Reading a desk.
use Rattle.std.proofs.Common.{◌≡◌, ◌≢◌, ◌⊎◌, ◌↔◌, ◌+◌, ◌-◌, ◌<◌, ◌≤◌, ℕ, Bool, true, false, List, [], ◌∷◌, map, length, get_or, max, Option, Some, None, IsSome, is_some, Contains, inl, inr, refl, sym, ap, subst, ◌∙◌, ⊎_elim, arith, get_or-set_other, get_or-set_same, lt-ltb, le-ltb}
use Rattle.std.proofs.Math.ListN.{set}
use Rattle.std.proofs.lemmas.List.{length-set}
use Rattle.std.proofs.lemmas.Bool.{cases_lt, cases_eq}
use Rattle.std.proofs.lemmas.Option.{none-some, same_Some}
use Rattle.std.specs.FinMap.{get}
use Rattle.slab.specs.Slab.{Slab, entries}
use Rattle.fg_peel.specs.declared.Line.{Line}
use Rattle.fg_peel.specs.Slots.{lines_of}
use Rattle.fg_peel.proofs.Lists.{Contains-map, Contains-here, Contains-there, Contains-cases, Contains-nil}
use Rattle.fg_peel.proofs.Options.{value_of}
use Rattle.fg_buffer.specs.LiveEquations.{live_of, IsAmong}
use Rattle.fg_playout.specs.State.{State, Live, known}
use Rattle.fg_playout.specs.Solution.{InClosure}
use Rattle.fg_playout.specs.Facts.{Holds}
use Rattle.fg_closure.specs.declared.search.LineSlots.{LineSlots}
use Rattle.fg_closure.specs.Flags.{IsFlagged, IsLineAt, AreCopied, slots_of_line}

-- A known position lies at most 100 before the mark, and less than the depth past it.
pub record IsAround (desk : State) (position : ℕ) : Type 0 where
  pub from : desk.mark ≤ position + 100
  pub upto : position < desk.mark + desk.playout.depth

pub known_around : (desk : State) → Holds desk → (position : ℕ) → IsSome (known desk position) → IsAround desk position
known_around desk facts position some = ⊎_elim
    (λ below. (
    let here : IsSome (get desk.kept position) = rw (lt-ltb position desk.mark below) at some in
    let word = value_of (get desk.kept position) here in
    let near = (facts.kept position word.0 word.1).near in
    record { from = omega arith; upto = omega arith }
    ))
    (λ ahead. (
    let here : IsSome (get desk.media position) = rw (le-ltb position desk.mark ahead) at some in
    let word = value_of (get desk.media position) here in
    let near = (facts.media position word.0 word.1).near in
    record { from = omega arith; upto = omega arith }
    ))
    (cases_lt position desk.mark)

pub words_read : (desk : State) (first count : ℕ) (flags : List Bool) → Holds desk → first ≡ desk.mark - 100
    → count ≡ (desk.mark - first) + desk.playout.depth
    → ((k : ℕ) → k < count → get_or flags k false ≡ is_some (known desk (first + k)))
    → ((k : ℕ) → count ≤ k → get_or flags k false ≡ false)
    → (position : ℕ) → IsFlagged first flags position ↔ IsSome (known desk position)
words_read desk first count flags facts begins counted read unread position = (
  λ flagged. ⊎_elim
      (λ within. (
      let from = flagged.0 in
      let same : first + (position - first) ≡ position = omega arith in
      subst (λ p. is_some (known desk p) ≡ true) same (sym (read (position - first) within) ∙ flagged.1)
      ))
      (λ past. absurd (let none = unread (position - first) past in let yes = flagged.1 in cc))
      (cases_lt (position - first) count),
  λ some. (
      let around = known_around desk facts position some in
      let near = around.from in let far = around.upto in
      let from : first ≤ position = omega arith in
      let within : position - first < count = omega arith in
      let same : first + (position - first) ≡ position = omega arith in
      (from, read (position - first) within ∙ ap (λ p. is_some (known desk p)) same ∙ some)
      ),
)

-- The lines of a slab up to those that are left are copied.
pub record IsCopying (slab : Slab Line) (old new : List (Option LineSlots)) (rest : List (ℕ × Line)) : Type 0 where
  pub left : (entry : ℕ × Line) → Contains rest entry → Contains (lines_of slab) entry.1
  pub was :
      (place : ℕ) (copy : LineSlots) → get_or new place None ≡ Some copy
      → (get_or old place None ≡ Some copy)
      ⊎ ((line : Line) × Contains (lines_of slab) line × (line.place ≡ place) × (copy ≡ slots_of_line line))
  pub copied :
      (line : Line) → Contains (lines_of slab) line
      → Contains (map (λ (entry : ℕ × Line). entry.1) rest) line ⊎ IsSome (get_or new line.place None)
  pub kept : (place : ℕ) → IsSome (get_or old place None) → IsSome (get_or new place None)

pub copying_begins : (slab : Slab Line) (old : List (Option LineSlots)) (rest : List (ℕ × Line)) → rest ≡ entries slab → IsCopying slab old old rest
copying_begins slab old rest whole = record {
  left = λ entry c. Contains-map (λ (e : ℕ × Line). e.1) (entries slab) entry (rw whole at c);
  was = λ place copy is. inl is;
  copied = λ line c. inl (rw whole c);
  kept = λ place some. some;
}

set_some : (lines : List (Option LineSlots)) (place other : ℕ) (copy : LineSlots) → place < length lines
    → IsSome (get_or lines other None) → IsSome (get_or (set lines place (Some copy)) other None)
set_some lines place other copy within some = ⊎_elim
    (λ same. ap is_some (ap (λ p. get_or (set lines place (Some copy)) p None) same ∙ get_or-set_same lines place (Some copy) None within))
    (λ differ. ap is_some (get_or-set_other lines place other (Some copy) None differ) ∙ some)
    (cases_eq other place)

pub copying_on : (slab : Slab Line) (old new : List (Option LineSlots)) (all rest : List (ℕ × Line)) (entry : ℕ × Line) (place : ℕ)
    → all ≡ entry ∷ rest → place ≡ entry.1.place → place < length new → IsCopying slab old new all
    → IsCopying slab old (set new place (Some (slots_of_line entry.1))) rest
copying_on slab old new all rest entry place cut at within copying =
    let line = entry.1 in record {
      left = λ other c. copying.left other (rw cut (Contains-there entry rest other c));
      was = λ other copy is. ⊎_elim
          (λ same. inr (
            line,
            copying.left entry (rw cut (Contains-here entry rest)),
            sym at ∙ sym same,
            sym (same_Some (slots_of_line line) copy
                (sym (ap (λ p. get_or (set new place (Some (slots_of_line line))) p None) same ∙ get_or-set_same new place (Some (slots_of_line line)) None within) ∙ is)),
          ))
          (λ differ. copying.was other copy (sym (get_or-set_other new place other (Some (slots_of_line line)) None differ) ∙ is))
          (cases_eq other place);
      copied = λ other c. ⊎_elim
          (λ left. ⊎_elim
          (λ here. (
          let where_is : other.place ≡ place = ap (λ (l : Line). l.place) here ∙ sym at in
          inr (ap is_some (ap (λ p. get_or (set new place (Some (slots_of_line line))) p None) where_is
          ∙ get_or-set_same new place (Some (slots_of_line line)) None within))
          ))
          (λ there. inl there)
          (Contains-cases line (map (λ (e : ℕ × Line). e.1) rest) other (rw cut at left)))
          (λ some. inr (set_some new place other.place (slots_of_line line) within some))
          (copying.copied other c);
      kept = λ other some. set_some new place other (slots_of_line line) within (copying.kept other some);
    }

-- The next line's place is in the table.
pub place_within : (slab : Slab Line) (old new : List (Option LineSlots)) (all rest : List (ℕ × Line)) (entry : ℕ × Line) → all ≡ entry ∷ rest
    → length new ≡ length old → ((line : Line) → Contains (lines_of slab) line → line.place < length old) → IsCopying slab old new all
    → entry.1.place < length new
place_within slab old new all rest entry cut long within copying =
    let below = within entry.1 (copying.left entry (rw cut (Contains-here entry rest))) in
    omega (arith, below, long)

pub copying_ends : (slab : Slab Line) (old new : List (Option LineSlots)) (rest : List (ℕ × Line)) → rest ≡ []
    → IsCopying slab old new rest → AreCopied slab old new
copying_ends slab old new rest none copying = record {
  was = copying.was;
  copied = λ line c. ⊎_elim (λ left. absurd (Contains-nil line (rw none at left))) (λ some. some) (copying.copied line c);
  kept = copying.kept;
}

-- All lines of a desk stand at their places after both of its slabs are copied into an empty table.
module _ (desk : State) (unsettled settled : Slab Line) (none half lines : List (Option LineSlots)) (facts : Holds desk)
    (empty : (place : ℕ) → get_or none place None ≡ None)
    (live : (line : Line) → IsAmong unsettled settled line ↔ (get desk.equations line.serial ≡ Some (live_of line)))
    (first : AreCopied unsettled none half) (second : AreCopied settled half lines) where
  line_of : (line : Line) (place : ℕ) (copy : LineSlots) → IsAmong unsettled settled line → line.place ≡ place → copy ≡ slots_of_line line
      → IsLineAt desk place copy
  line_of line place copy among at is = subst (λ c. IsLineAt desk place c) (sym is) (record {
    live = live_of line;
    listed = (live line).0 among;
    placed = at;
    base_is = refl;
    offset_is = refl;
    count_is = refl;
  })

  pub at_place : (place : ℕ) (copy : LineSlots) → get_or lines place None ≡ Some copy → IsLineAt desk place copy
  at_place place copy is = ⊎_elim
      (λ before. ⊎_elim
      (λ never. absurd (none-some copy (sym (empty place) ∙ never)))
      (λ line. line_of line.0 place copy (inl line.1) line.2 line.3)
      (first.was place copy before))
      (λ line. line_of line.0 place copy (inr line.1) line.2 line.3)
      (second.was place copy is)

  some_at : (line : Line) → IsAmong unsettled settled line → IsSome (get_or lines line.place None)
  some_at line among = ⊎_elim
      (λ c. second.kept line.place (first.copied line c))
      (λ c. second.copied line c)
      among

  same_line : (place : ℕ) (copy other : LineSlots) → IsLineAt desk place copy → IsLineAt desk place other → other ≡ copy
  same_line place copy other one two =
      let serial : other.serial ≡ copy.serial = ⊎_elim
      (λ same. same)
      (λ differ. absurd ((facts.apart other.serial copy.serial two.live one.live two.listed one.listed differ).places (two.placed ∙ sym one.placed)))
      (cases_eq other.serial copy.serial) in
      let live : two.live ≡ one.live =
      same_Some two.live one.live (sym two.listed ∙ ap (λ s. get desk.equations s) serial ∙ one.listed) in
      let base : other.base ≡ copy.base = two.base_is ∙ ap (λ (l : Live). l.equation.base) live ∙ sym one.base_is in
      let offset : other.shape.offset ≡ copy.shape.offset = two.offset_is ∙ ap (λ (l : Live). l.equation.offset) live ∙ sym one.offset_is in
      let count : other.shape.na ≡ copy.shape.na = two.count_is ∙ ap (λ (l : Live). l.equation.count) live ∙ sym one.count_is in
      λ i. record { serial = serial i; base = base i; shape = record { offset = offset i; na = count i } }

  pub placed : (place : ℕ) (copy : LineSlots) → IsLineAt desk place copy → get_or lines place None ≡ Some copy
  placed place copy at =
      let line : Line = record {
        base = at.live.equation.base;
        shape = record { offset = at.live.equation.offset; na = at.live.equation.count };
        parity = at.live.equation.parity;
        serial = copy.serial;
        place = at.live.place;
      } in
      let some = some_at line ((live line).1 at.listed) in
      let found = value_of (get_or lines at.live.place None) some in
      let here : get_or lines place None ≡ Some found.0 = ap (λ p. get_or lines p None) (sym at.placed) ∙ found.1 in
      here ∙ ap (λ (c : LineSlots). Some c) (same_line place copy found.0 at (at_place place found.0 here))

  pub all_lines : (place : ℕ) (copy : LineSlots) → (get_or lines place None ≡ Some copy) ↔ IsLineAt desk place copy
  all_lines place copy = (at_place place copy, placed place copy)

-- Every place of a desk's lines is in the table.
pub live_within : (desk : State) (unsettled settled : Slab Line) (count : ℕ) → Holds desk → count ≡ 512
    → ((line : Line) → IsAmong unsettled settled line ↔ (get desk.equations line.serial ≡ Some (live_of line)))
    → (line : Line) → IsAmong unsettled settled line → line.place < count
live_within desk unsettled settled count facts counted live line among =
    let below = (facts.live line.serial (live_of line) ((live line).0 among)).placed in omega (arith, below, counted)

-- Flags of what a desk found, beside those that were set before.
pub record AreBeside (desk : State) (first : ℕ) (start flags : List Bool) : Type 0 where
  pub kept : (position : ℕ) → IsFlagged first start position → IsFlagged first flags position
  pub follow : (position : ℕ) → IsFlagged first flags position → IsFlagged first start position ⊎ InClosure desk position

-- One more flag, of a position that follows.
pub one_beside : (desk : State) (first k : ℕ) (start flags : List Bool) → k < length flags → InClosure desk (first + k)
    → AreBeside desk first start flags → AreBeside desk first start (set flags k true)
one_beside desk first k start flags within here beside = record {
  kept = λ position flagged.
      (let was = beside.kept position flagged in (
        was.0,
        ⊎_elim
            (λ same. ap (λ n. get_or (set flags k true) n false) same ∙ get_or-set_same flags k true false within)
            (λ differ. get_or-set_other flags k (position - first) true false differ ∙ was.1)
            (cases_eq (position - first) k),
      ));
  follow = λ position flagged.
      (let from = flagged.0 in
      ⊎_elim
      (λ same. inr (let at : first + k ≡ position = omega (arith, same, from) in subst (λ (q : ℕ). InClosure desk q) at here))
      (λ differ. beside.follow position (from, sym (get_or-set_other flags k (position - first) true false differ) ∙ flagged.1))
      (cases_eq (position - first) k));
}

-- What a closure tells of the desk that was found.
use Rattle.std.proofs.Common.{◌≡◌, ◌⊎◌, ◌↔◌, ◌+◌, ◌-◌, ◌*◌, ◌^◌, ◌<◌, ◌≤◌, ℕ, Bool, true, false, List, ◌++◌, length, take, drop, get_or, max, Option, Some, None, IsSome, inl, inr, refl, sym, ap, subst, ◌∙◌, ⊎_elim, arith, below_more}
use Rattle.std.proofs.lemmas.Bool.{cases_lt}
use Rattle.std.proofs.lemmas.List.{take-append-le, get_or_default}
use Rattle.std.proofs.Math.Seq.{take-length}
use Rattle.std.proofs.lemmas.Option.{none-some, same_Some}
use Rattle.std.specs.List.{Contains, All}
use Rattle.std.specs.FinMap.{get, entries}
use Rattle.fg_shape.specs.Shape.{IsShape, position_limit}
use Rattle.fg_peel.proofs.Lists.{Contains-from_map}
use Rattle.fg_peel.proofs.Maps.{get_of_entry}
use Rattle.fg_peel.proofs.SlotRange.{last_at}
use Rattle.fg_playout.proofs.Equations.{live_at}
use Rattle.fg_playout.specs.State.{State, Live, known, last_slot}
use Rattle.fg_playout.specs.Solution.{InClosure, given}
use Rattle.fg_playout.specs.Facts.{Holds}
use Rattle.fg_closure.specs.declared.search.LineSlots.{LineSlots}
use Rattle.fg_closure.specs.declared.closure.Closure.{Closure}
use Rattle.fg_closure.specs.Flags.{IsFlagged, slots_at, IsLineAt, IsTold, AllHaveFlags, NothingFollows, IsOnTheWay}
use Rattle.fg_closure.specs.Found.{IsFoundOf}
use Rattle.fg_closure.specs.Holes.{IsLookedAt, IsHole, HasMissing}
use Rattle.fg_closure.proofs.Searches.{all_flagged, true_within}

-- The last slot of a line.
abbrev pub last_of : LineSlots → ℕ
last_of line = line.base + (line.shape.na - 1) * line.shape.offset

pub last_is_of : (desk : State) (place : ℕ) (line : LineSlots) (at : IsLineAt desk place line) → last_of line ≡ last_slot at.live.equation
last_is_of desk place line at = rw (at.base_is, at.offset_is, at.count_is) refl

-- What is true of the line of a live equation.
pub record IsInReach (desk : State) (line : LineSlots) : Type 0 where
  pub shape : IsShape line.shape.offset line.shape.na
  pub base : line.base ≤ position_limit
  pub reaches : desk.mark ≤ last_of line
  pub near : last_of line < desk.mark + desk.playout.depth + 100
  pub span : last_of line ≤ line.base + 99

pub in_reach : (desk : State) (place : ℕ) (line : LineSlots) → Holds desk → IsLineAt desk place line → IsInReach desk line
in_reach desk place line facts at =
    let live = facts.live line.serial at.live at.listed in
    let shape : IsShape line.shape.offset line.shape.na = rw (at.offset_is, at.count_is) live.shape in
    let same = last_is_of desk place line at in
    let reaches = live.reaches in let near = live.near in let span = shape.span in record {
      shape = shape;
      base = rw at.base_is live.base;
      reaches = omega (arith, same, reaches);
      near = omega (arith, same, near);
      span = omega (arith, span);
    }

-- So each line's slots have flags.
pub all_have_flags : (desk : State) (first count : ℕ) (table : List (Option LineSlots)) → Holds desk → desk.playout.depth ≤ 1000
    → first ≡ desk.mark - 100 → count ≡ 1200
    → ((place : ℕ) (line : LineSlots) → get_or table place None ≡ Some line → IsLineAt desk place line) → AllHaveFlags first count table
all_have_flags desk first count table facts depth begins counted lines place line is =
    let reach = in_reach desk place line facts (lines place line is) in
    let reaches = reach.reaches in let near = reach.near in let span = reach.span in record {
      shape = reach.shape;
      base = reach.base;
      from = omega arith;
      upto = omega arith;
    }

-- A list that is written whole is what was written.
pub whole : {X : Type 0} (n : ℕ) (new old : List X) → n ≡ length new → take n (new ++ drop (length new) old) ≡ new
whole n new old long =
    let few : n ≤ length new = omega (arith, long) in
    take-append-le n new (drop (length new) old) few ∙ ap (λ m. take m new) long ∙ take-length new

-- What a search from the known positions on has found once it has ended.
pub record AreFound (desk : State) (first : ℕ) (knows flags : List Bool) (table : List (Option LineSlots)) : Type 0 where
  pub known : (position : ℕ) → IsFlagged first knows position ↔ IsSome (known desk position)
  pub closed : (position : ℕ) → IsFlagged first flags position ↔ InClosure desk position
  pub lines : (place : ℕ) (line : LineSlots) → (get_or table place None ≡ Some line) ↔ IsLineAt desk place line

pub found : (desk : State) (first : ℕ) (knows knows' begin flags flags' : List Bool) (table table' seen : List (Option LineSlots)) → Holds desk
    → ((position : ℕ) → IsFlagged first knows position ↔ IsSome (known desk position))
    → ((place : ℕ) (line : LineSlots) → (get_or table place None ≡ Some line) ↔ IsLineAt desk place line)
    → (IsOnTheWay desk first seen begin → IsOnTheWay desk first seen flags)
    → ((place : ℕ) (line : LineSlots) → get_or seen place None ≡ Some line → NothingFollows first flags line)
    → ((position : ℕ) → IsFlagged first knows position → IsFlagged first begin position)
    → ((position : ℕ) → IsFlagged first begin position → IsFlagged first knows position ⊎ InClosure desk position)
    → seen ≡ table → knows' ≡ knows → flags' ≡ flags → table' ≡ table → AreFound desk first knows' flags' table'
found desk first knows knows' begin flags flags' table table' seen facts told lines goes done kept follow same known_is flags_are table_is =
    let start : IsOnTheWay desk first table begin = record {
      facts = facts;
      lines = λ place line is. (lines place line).0 is;
      given = λ position some. kept position ((told position).1 some);
      within = λ position flagged. ⊎_elim (λ (was : IsFlagged first knows position). given ((told position).0 was)) (λ inside. inside) (follow position flagged);
    } in
    let way : IsOnTheWay desk first table flags = subst (λ t. IsOnTheWay desk first t flags) same
    (goes (subst (λ t. IsOnTheWay desk first t begin) (sym same) start)) in
    let here : AreFound desk first knows flags table = record {
      known = told;
      closed = λ position. (
        way.within position,
        all_flagged desk first table flags way (λ place line. (lines place line).1)
            (λ place line is. done place line (subst (λ (t : List (Option LineSlots)). get_or t place None ≡ Some line) (sym same) is)) position,
      );
      lines = lines;
    } in
    subst (λ k. AreFound desk first k flags' table') (sym known_is)
    (subst (λ f. AreFound desk first knows f table') (sym flags_are) (subst (λ t. AreFound desk first knows flags t) (sym table_is) here))

-- A position of the window without a flag.
pub missing_here : (desk : State) (closure : Closure) (count start k : ℕ) → IsFoundOf desk closure → start ≡ closure.mark - closure.first → k < count
    → get_or closure.closed.items (start + k) false ≡ false → HasMissing desk count
missing_here desk closure count start k is begins below unset =
    let ahead = closure.ahead in let mark = is.mark_is in
    let at : desk.mark + k - closure.first ≡ start + k = omega arith in (
      desk.mark + k,
      omega arith,
      omega arith,
      λ inside. (
          let flag = ((is.closed (desk.mark + k)).1 inside).1 in
          let yes : get_or closure.closed.items (start + k) false ≡ true = ap (λ n. get_or closure.closed.items n false) (sym at) ∙ flag in
          cc
          ),
    )

pub none_missing : (desk : State) (closure : Closure) (count start : ℕ) → IsFoundOf desk closure → start ≡ closure.mark - closure.first
    → ((k : ℕ) → k < count → get_or closure.closed.items (start + k) false ≡ true) → HasMissing desk count → ⊥
none_missing desk closure count start is begins all missing =
    let ahead = closure.ahead in let mark = is.mark_is in
    let from = missing.1 in let upto = missing.2 in
    let at : start + (missing.0 - desk.mark) ≡ missing.0 - closure.first = omega arith in
    missing.3 ((is.closed missing.0).0 (omega arith, ap (λ n. get_or closure.closed.items n false) (sym at) ∙ all (missing.0 - desk.mark) (omega arith)))

-- The known positions are those told.
pub known_told : (desk : State) (closure : Closure) → IsFoundOf desk closure → (position : ℕ)
    → IsTold closure.first 0 1200 closure.known.items true position ↔ IsSome (known desk position)
known_told desk closure is position = (
  λ told. (is.known position).0 (let from = told.from in omega arith, told.flag),
  λ some. (
      let flagged = (is.known position).1 some in
      let from = flagged.0 in
      let within = true_within closure.known.items (position - closure.first) flagged.1 in
      let count = closure.known_count in let size = closure.known.ok.0 in
      record { from = omega arith; upto = omega arith; flag = flagged.1 }
      ),
)

-- What is looked at, up to an end.
pub record IsReach (closure : Closure) (count place end : ℕ) : Type 0 where
  pub window : closure.mark + count ≤ end
  pub above : (other : ℕ) (line : LineSlots) → other < place → get_or closure.lines.items other None ≡ Some line → last_of line < end
  pub told :
      (end ≡ closure.mark + count)
      ⊎ ((other : ℕ) × (line : LineSlots) × (get_or closure.lines.items other None ≡ Some line) × (end ≡ last_of line + 1))

pub reach_begins : (closure : Closure) (count end : ℕ) → end ≡ closure.mark + count → IsReach closure count 0 end
reach_begins closure count end is = record {
  window = omega (arith, is);
  above = λ other line below at. absurd (omega (arith, below));
  told = inl is;
}

-- no line stands at the place
pub reach_past : (closure : Closure) (count place end : ℕ) → get_or closure.lines.items place None ≡ None → IsReach closure count place end
    → IsReach closure count (place + 1) end
reach_past closure count place end none reach = record {
  window = reach.window;
  above = λ other line below is. ⊎_elim
      (λ less. reach.above other line less is)
      (λ not_less. absurd (
      let same : other ≡ place = omega (arith, below, not_less) in
      none-some line (sym none ∙ ap (λ p. get_or closure.lines.items p None) (sym same) ∙ is)
      ))
      (cases_lt other place);
  told = reach.told;
}

pub reach_on : (closure : Closure) (count place end more last : ℕ) (line : LineSlots) → get_or closure.lines.items place None ≡ Some line
    → last ≡ last_of line → more ≡ max end (last + 1) → IsReach closure count place end → IsReach closure count (place + 1) more
reach_on closure count place end more last line here last_is is reach =
    let window = reach.window in record {
      window = omega (arith, is, window);
      above = λ other line' below at.
          below_more (λ (p : ℕ). (l : LineSlots) → get_or closure.lines.items p None ≡ Some l → last_of l < more) place
          (λ p less l at'. let low = reach.above p l less at' in omega (arith, is, low))
          (λ l at'. let same = ap last_of (same_Some line l (sym here ∙ at')) in omega (arith, is, last_is, same))
          other below line' at;
      told = ⊎_elim
          (λ grows. inr (place, line, here, omega (arith, is, grows, last_is)))
          (λ stays. (let e : more ≡ end = omega (arith, is, stays) in ⊎_elim
          (λ window. inl (e ∙ window))
          (λ line. inr (line.0, line.1, line.2, e ∙ line.3))
          reach.told))
          (cases_lt end (last + 1));
    }

pub reach_limit : (desk : State) (closure : Closure) (count place end : ℕ) → IsFoundOf desk closure → count ≤ 100 → IsReach closure count place end
    → end ≤ closure.mark + 1100
reach_limit desk closure count place end is few reach = ⊎_elim
    (λ window. omega (arith, window))
    (λ line. (
    let near = (in_reach desk line.0 line.1 is.facts ((is.lines line.0 line.1).0 line.2)).near in
    let depth = is.depth in let mark = is.mark_is in let e = line.3 in
    omega arith
    ))
    reach.told

pub reach_looked_at : (desk : State) (closure : Closure) (count place end : ℕ) → IsFoundOf desk closure → 512 ≤ place → IsReach closure count place end
    → (position : ℕ) → IsLookedAt desk count position ↔ ((desk.mark ≤ position) × (position < desk.mark + (end - closure.mark)))
reach_looked_at desk closure count place end is all reach position =
    let mark = is.mark_is in let window = reach.window in (
      λ looked_at. (
        looked_at.ahead,
        ⊎_elim
            (λ near. omega (arith, near))
            (λ equation. (
            let found = Contains-from_map (λ (entry : ℕ × Live). entry.1.equation) (entries desk.equations) equation.0 equation.1 in
            let live = found.0.1 in
            let listed : get desk.equations found.0.0 ≡ Some live = get_of_entry desk.equations found.0 found.1 in
            let line : LineSlots = record {
              serial = found.0.0;
              base = live.equation.base;
              shape = record { offset = live.equation.offset; na = live.equation.count };
            } in
            let at : IsLineAt desk live.place line =
            record { live = live; listed = listed; placed = refl; base_is = refl; offset_is = refl; count_is = refl } in
            let placed = (is.facts.live found.0.0 live listed).placed in
            let low = reach.above live.place line (omega (arith, placed, all)) ((is.lines live.place line).1 at) in
            let last : last_slot live.equation ≡ last_slot equation.0 = ap last_slot found.2 in
            let upto = equation.2 in
            omega arith
            ))
            looked_at.near,
      ),
      λ within. record {
        ahead = within.0;
        near = ⊎_elim
            (λ window. inl (let upto = within.1 in omega arith))
            (λ line. inr (
            let at = (is.lines line.0 line.1).0 line.2 in
            let last = last_is_of desk line.0 line.1 at in let upto = within.1 in let e = line.3 in
            (at.live.equation, live_at desk line.1.serial at.live at.listed, omega arith)
            ))
            reach.told;
      },
    )

-- The holes are those told.
pub holes_told : (desk : State) (closure : Closure) (count start end reach : ℕ) → IsFoundOf desk closure → start ≡ closure.mark - closure.first
    → end ≡ start + reach
    → ((position : ℕ) → IsLookedAt desk count position ↔ ((desk.mark ≤ position) × (position < desk.mark + reach)))
    → (position : ℕ) → IsTold closure.first start end closure.closed.items false position ↔ IsHole desk count position
holes_told desk closure count start end reach is begins ends looked_at position =
    let ahead = closure.ahead in let mark = is.mark_is in (
      λ told. (
          let from = told.from in let upto = told.upto in
          record {
            looked_at = (looked_at position).1 (omega arith, omega arith);
            underivable = λ inside. (let flag = ((is.closed position).1 inside).1 in let unset = told.flag in cc);
          }
          ),
      λ hole. (
          let within = (looked_at position).0 hole.looked_at in
          let from = within.0 in let upto = within.1 in
          record {
            from = omega arith;
            upto = omega arith;
            flag = unflagged (get_or closure.closed.items (position - closure.first) false) (λ flag. hole.underivable ((is.closed position).0 (omega arith, flag)));
          }
          ),
    )
  where
    unflagged : (b : Bool) → (b ≡ true → ⊥) → b ≡ false
    unflagged true n = absurd (n refl)
    unflagged false n = refl

-- A flag, as an index reads it.
pub read_flag : (flags : List Bool) (k : ℕ) (read b : Bool) → k < length flags → read ≡ get_or flags k read → read ≡ b → get_or flags k false ≡ b
read_flag flags k read b within is told = get_or_default flags k false read within ∙ sym is ∙ told

-- A flag is not both.
pub not_both : (b : Bool) → b ≡ true → b ≡ false → ⊥
not_both b set unset = cc

-- A line, as an index reads it.
pub read_line : (lines : List (Option LineSlots)) (k : ℕ) (read line : Option LineSlots) → k < length lines → read ≡ get_or lines k read → read ≡ line
    → get_or lines k None ≡ line
read_line lines k read line within is told = get_or_default lines k None read within ∙ sym is ∙ told

-- What a line is, where a closure was found.
pub line_reach : (closure : Closure) (place : ℕ) (line : LineSlots) → (desk : State) × IsFoundOf desk closure
    → get_or closure.lines.items place None ≡ Some line → (desk : State) × IsInReach desk line
line_reach closure place line of is = (of.0, in_reach of.0 place line of.1.facts ((of.1.lines place line).0 is))

-- Its last slot, as it is found.
pub last_found : (line : LineSlots) (last : ℕ) → IsShape line.shape.offset line.shape.na
    → Contains (slots_at line) last → All (λ slot. slot ≤ last) (slots_at line) → last ≡ last_of line
last_found line last shape listed greatest = last_at line.base line.shape.offset line.shape.na last shape listed greatest

pub last_fits : (line : LineSlots) (last : ℕ) (desk : State) → IsInReach desk line → last ≡ last_of line → last < 2 ^ 63
last_fits line last desk reach is =
    let base = reach.base in let span = reach.span in omega (arith, is, base, span)

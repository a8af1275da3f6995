-- Lines that are dropped by place, and what the first watched position tells of a line.
use Rattle.std.proofs.Common.{◌≡◌, ◌≢◌, ◌↔◌, ◌+◌, ◌<◌, ◌≤◌, ℕ, Bool, true, false, List, length, get_or, set, Option, Some, None, Bor, IfSome, IfNone, inl, refl, sym, ap, subst, ◌∙◌, ⊎_elim, arith}
use Rattle.std.proofs.lemmas.Bool.{cases_eq, cases_lt}
use Rattle.std.proofs.lemmas.List.{get_or-set_same, get_or-set_other, length-set}
use Rattle.std.specs.FinSet as fset
use Rattle.slab.specs.Slab.{Slab, get, slab_len, Updates}
use Rattle.fg_peel.specs.declared.Line.{Line}
use Rattle.fg_peel.specs.Slots.{equation_of}
use Rattle.fg_peel.specs.Live.{Live, Survives}
use Rattle.fg_peel.specs.Words.{Words}
use Rattle.fg_buffer.specs.LiveEquations.{LiveState, IsLiveLine, NoneIsOpenAt, SurviveAsWatched, live_of}
use Rattle.fg_buffer.specs.LiveInside.{Holds, IsKeyed, AreSound, AreWithin, Drops, state_of}
use Rattle.fg_buffer.specs.Watches.{WatchState, Closes, WatchesAt, first_of}
use Rattle.fg_buffer.proofs.LiveMoves.{held_still, was_held}
use Rattle.fg_buffer.proofs.LiveViews.{one_value, live_standing, not_settled, standing_of, settled_under}

-- The line at one place is dropped.
pub drops_at :
    (keys : List ℕ) (lines out : Slab Line) (places : List Bool) (place key : ℕ) (line : Line) → IsKeyed keys lines
    → get lines key ≡ Some line → line.place ≡ place → place < length places → Updates lines out key None
    → slab_len out + 1 ≡ slab_len lines → out.capacity ≡ lines.capacity
    → Drops (λ l. l.place ≢ place) lines out places (set places place false)
drops_at keys lines out places place key line keyed is at within removed less same_room = record {
  left = λ k other. (
    λ left.
        let was = was_held lines out key removed k other left in (
          was.1,
          λ same.
              let one : get_or keys place 0 ≡ k = ap (λ (p : ℕ). get_or keys p 0) (sym same) ∙ keyed k other was.1 in
              let two : get_or keys place 0 ≡ key = ap (λ (p : ℕ). get_or keys p 0) (sym at) ∙ keyed key line is in
              was.0 (sym one ∙ two),
        ),
    λ r.
        held_still lines out key None removed k other
        (λ same. r.1 (ap (λ (l : Line). l.place) (one_value (get lines key) other line (ap (get lines) (sym same) ∙ r.0) is) ∙ at)) r.0,
  );
  freed = λ other. (
    λ taken. ⊎_elim
        (λ (same : other ≡ place).
        let e : false ≡ true =
        sym (get_or-set_same places place false false within)
        ∙ ap (λ (p : ℕ). get_or (set places place false) p false) (sym same) ∙ taken in absurd (cc))
        (λ differs. (
          sym (get_or-set_other places place other false false differs) ∙ taken,
          λ l h here there. differs (sym here ∙ there),
        ))
        (cases_eq other place),
    λ r. ⊎_elim
        (λ (same : other ≡ place). absurd (r.1 line (key, is) (at ∙ sym same) at))
        (λ differs. get_or-set_other places place other false false differs ∙ r.0)
        (cases_eq other place),
  );
  count = length-set places place false;
  fewer = omega (arith, less);
  capacity = same_room;
}

-- Lines are dropped, and others of those that are left.
pub drops_then :
    (P Q : Line → Type 0) (old mid new : Slab Line) (places places' places'' : List Bool) → Drops P old mid places places'
    → Drops Q mid new places' places'' → Drops (λ line. P line × Q line) old new places places''
drops_then P Q old mid new places places' places'' one two = record {
  left = λ key line. (
    λ is. (let r = (two.left key line).0 is in let s = (one.left key line).0 r.0 in (s.0, (s.1, r.1))),
    λ r. (two.left key line).1 ((one.left key line).1 (r.0, r.1.0), r.1.1),
  );
  freed = λ place. (
    λ taken.
        (let r = (two.freed place).0 taken in
        let s = (one.freed place).0 r.0 in (
          s.0,
          λ line h same. (let stays = s.1 line h same in (stays, r.1 line (h.0, (one.left h.0 line).1 (h.1, stays)) same)),
        )),
    λ r. (two.freed place).1 (
      (one.freed place).1 (r.0, λ line h same. (r.1 line h same).0),
      λ line h same. (r.1 line (h.0, ((one.left h.0 line).0 h.1).0) same).1,
    ),
  );
  count = two.count ∙ one.count;
  fewer = (let a = one.fewer in let b = two.fewer in omega (arith, a, b));
  capacity = two.capacity ∙ one.capacity;
}

-- Those stay of which this is so, or that, where both are so of the same lines.
pub drops_same :
    (P Q : Line → Type 0) (old new : Slab Line) (places places' : List Bool)
    → ((line : Line) → Holds old line → P line ↔ Q line) → Drops P old new places places' → Drops Q old new places places'
drops_same P Q old new places places' same drops = record {
  left = λ key line. (
    λ is. (let r = (drops.left key line).0 is in (r.0, (same line (key, r.0)).0 r.1)),
    λ r. (drops.left key line).1 (r.0, (same line (key, r.0)).1 r.1),
  );
  freed = λ place. (
    λ taken. (let r = (drops.freed place).0 taken in (r.0, λ line h at. (same line h).0 (r.1 line h at))),
    λ r. (drops.freed place).1 (r.0, λ line h at. (same line h).1 (r.1 line h at)),
  );
  count = drops.count;
  fewer = drops.fewer;
  capacity = drops.capacity;
}

-- A pass by rising place over the lines whose first watched position lies before the mark.
pub record ClosesTo
    (mark from : ℕ) (old new : Slab Line) (places places' : List Bool) (watched now : WatchState) : Type 0 where
  pub drops : Drops (λ line. line.place < from → mark ≤ first_of watched line.place) old new places places'
  pub closes : Closes mark watched now
  pub ahead : (place : ℕ) → from ≤ place → first_of now place ≡ first_of watched place

pub closes_first :
    (mark : ℕ) (lines : Slab Line) (places : List Bool) (watched : WatchState)
    → Drops (λ line. line.place < 0 → mark ≤ first_of watched line.place) lines lines places places
    → ClosesTo mark 0 lines lines places places watched watched
closes_first mark lines places watched none = record {
  drops = none;
  closes = record { queued = refl; first = λ place from. refl; second = λ place from. refl };
  ahead = λ place from. refl;
}

module _
    (mark from : ℕ) (old new : Slab Line) (places places' : List Bool) (watched now : WatchState)
    (done : ClosesTo mark from old new places places' watched now) where
  -- One more line is dropped, and watches nothing any more.
  pub closes_one :
      (place : ℕ) → from ≤ place → first_of now place < mark
      → ((other : ℕ) → from ≤ other → other < place → mark ≤ first_of now other)
      → (out : Slab Line) (places'' : List Bool) → Drops (λ line. line.place ≢ place) new out places' places''
      → (nothing : ℕ) (left : WatchState) → WatchesAt place nothing nothing now left
      → ClosesTo mark (place + 1) old out places places'' watched left
  closes_one place reached before between out places'' dropped nothing left leaves = record {
    drops = drops_same
        (λ line. (line.place < from → mark ≤ first_of watched line.place) × (line.place ≢ place))
        (λ line. line.place < place + 1 → mark ≤ first_of watched line.place) old out places places''
        (λ line h. (
          λ r less. ⊎_elim
              (λ (same : line.place ≡ place). absurd (r.1 same))
              (λ differs. ⊎_elim
              (λ (early : line.place < from). r.0 early)
              (λ (late : from ≤ line.place).
              let near = between line.place late (omega (arith, less, differs)) in
              let is = done.ahead line.place late in
              omega (arith, near, is))
              (cases_lt line.place from))
              (cases_eq line.place place),
          λ all. (
            λ less. all (omega (arith, less, reached)),
            λ same.
                let here = all (omega (arith, same)) in
                let is = done.ahead place reached in
                let at = ap (λ (p : ℕ). first_of watched p) same in
                absurd (omega (arith, here, is, at, before)),
          ),
        ))
        (drops_then (λ line. line.place < from → mark ≤ first_of watched line.place) (λ line. line.place ≢ place) old new out
        places places' places'' done.drops dropped);
    closes = record {
      queued = leaves.queued ∙ done.closes.queued;
      first = λ other stays.
          (let same = done.closes.first other stays in
          leaves.other_first other (λ is.
          (let at = ap (λ (p : ℕ). first_of now p) is in omega (arith, at, same, stays, before))) ∙ same);
      second = λ other stays.
          (let same = done.closes.first other stays in
          leaves.other_second other (λ is.
          (let at = ap (λ (p : ℕ). first_of now p) is in omega (arith, at, same, stays, before))) ∙ done.closes.second other stays);
    };
    ahead = λ other past. (
        let later = done.ahead other (omega (arith, past, reached)) in
        leaves.other_first other (λ is. (omega (arith, is, past))) ∙ later);
  }

  -- None is left.
  pub closes_all :
      AreWithin old → ((other : ℕ) → from ≤ other → other < 512 → mark ≤ first_of now other)
      → Drops (λ line. mark ≤ first_of watched line.place) old new places places'
  closes_all within none =
      drops_same (λ line. line.place < from → mark ≤ first_of watched line.place) (λ line. mark ≤ first_of watched line.place)
      old new places places'
      (λ line h. (
        λ r. ⊎_elim
            (λ (early : line.place < from). r early)
            (λ (late : from ≤ line.place).
            let near = none line.place late (within h.0 line h.1).place in
            let is = done.ahead line.place late in
            omega (arith, near, is))
            (cases_lt line.place from),
        λ all less. all,
      ))
      done.drops

-- What the first watched position tells of an open line.
pub survives_watched :
    (first second : Slab Line) (places : List Bool) → AreSound first second places → (mark : ℕ) (kept : Words)
    (watches : WatchState) → SurviveAsWatched mark kept watches (state_of first second) → (line : Line) → Holds first line
    → (mark ≤ first_of watches line.place) ↔ Survives mark kept (equation_of line)
survives_watched first second places sound mark kept watches survive line h =
    let r = survive line.serial (live_of line) (live_standing first second sound.serials line (inl h))
    (not_settled first second sound.serials line h) in
    (r.1, r.0)

-- The open line at a place, and where there is none.
pub told_open :
    (first second : Slab Line) (places : List Bool) (now : LiveState) → state_of first second ≡ now
    → AreSound first second places → (place : ℕ) (found : Option (Bor Line))
    → IfSome found (λ (line : Bor Line). Holds first line.now × (line.now.place ≡ place))
    → IfSome found (λ (line : Bor Line). IsLiveLine now line.now × (line.now.place ≡ place)
    × (fset.contains now.settled line.now.serial ≡ false))
told_open first second places now view sound place None told = told
told_open first second places now view sound place (Some line) told =
    subst
    (λ (s : LiveState). IsLiveLine s line.now × (line.now.place ≡ place) × (fset.contains s.settled line.now.serial ≡ false)) view (
      live_standing first second sound.serials line.now (inl told.0),
      told.1,
      not_settled first second sound.serials line.now told.0,
    )

pub told_none_open :
    (first second : Slab Line) (now : LiveState) → state_of first second ≡ now → (place : ℕ) (found : Option (Bor Line))
    → IfNone found ((line : Line) → Holds first line → ¬ (line.place ≡ place)) → IfNone found (NoneIsOpenAt place now)
told_none_open first second now view place (Some line) told = told
told_none_open first second now view place None told =
    subst (NoneIsOpenAt place) view
    (λ serial live is same.
    let r = standing_of first second serial live is in
    ⊎_elim
    (λ a. absurd (told r.0 a (sym (ap (λ (l : Live). l.place) r.3) ∙ same)))
    (λ b. settled_under first second r.0 b serial r.2)
    r.1)

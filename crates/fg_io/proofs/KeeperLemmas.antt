-- Lemmas on the keepers of an outlet in memory.
use Rattle.std.proofs.Common.{◌≡◌, ◌≢◌, ◌==◌, ◌≤◌, ◌-◌, ℕ, Bool, true, false, cond, Option, None, Some, IsSome, IsNone, unwrap_or, List, [], ◌++◌, length, take, min, map, get_or, set, position, refl, sym, ap, ◌∙◌, subst, arith, eq-eqb}
use Rattle.std.specs.List.{position_or_len, slice_get}
use Rattle.std.specs.Option.{option_and_then}
use Rattle.std.proofs.lemmas.Bool.{ltb-false, ne_eqb, eqb-true}
use Rattle.std.proofs.lemmas.List.{map-set, set-get_or, take_min}
use Rattle.std.proofs.lemmas.List.Folds.{find_at, find-set, find_past}
use Rattle.std.proofs.lemmas.List.Quantifiers.{position-Some}
use Rattle.std.proofs.lemmas.List.Sums.{position_or_len_is}
use Rattle.std.proofs.lemmas.Option.{slice_get-get_or, slice_get_past}
use Rattle.std.proofs.Math.ListN.{get_or-map}
use Rattle.fg_io.specs.MemOutlet.{KeeperState, keeper_of, keeper_lanes, room_left}
use Rattle.fg_io.specs.Outlet.{LaneGains, LaneGainsPart}
use Rattle.fg_io.proofs.OutletLemmas.{LaneGainsPart-front, LaneGainsPart-whole}
use Rattle.fg_io.proofs.PrefixLemmas.{IsPrefix-take}

-- the keeper at the port's place is the port's: `at_port` says that this is the place
pub keeper_of-found : (keepers : List KeeperState) (port at : ℕ) (d : KeeperState) → position (λ keeper. keeper.port == port) keepers ≡ Some at
    → keeper_of keepers port ≡ Some (get_or keepers at d)
keeper_of-found keepers port at d at_port =
    let found = position-Some (λ keeper. keeper.port == port) keepers at d at_port in
    let first = position_or_len_is (λ keeper. keeper.port == port) keepers at d (omega (arith, found.0)) found.2 (λ _. found.1) in
    find_at (λ keeper. keeper.port == port) keepers ∙ ap (slice_get keepers) first ∙ slice_get-get_or keepers at d found.0

-- a choice of nothing was not of something
nothing_chosen : (test : Bool) (at : ℕ) → cond test (Some at) None ≡ None → test ≡ false
nothing_chosen true at none = cc
nothing_chosen false at none = refl

-- a port without a place has no keeper
pub keeper_of-none : (keepers : List KeeperState) (port : ℕ) → position (λ keeper. keeper.port == port) keepers ≡ None → keeper_of keepers port ≡ None
keeper_of-none keepers port nowhere =
    let past : length keepers ≤ position_or_len (λ keeper. keeper.port == port) keepers = ltb-false _ _ (nothing_chosen _ _ nowhere) in
    find_at (λ keeper. keeper.port == port) keepers ∙ slice_get_past keepers _ past

-- a keeper that is written at the port's place is the port's
keeper_of-written : (keepers : List KeeperState) (port at : ℕ) (d new : KeeperState) → position (λ keeper. keeper.port == port) keepers ≡ Some at
    → new.port ≡ port → keeper_of (set keepers at new) port ≡ Some new
keeper_of-written keepers port at d new at_port is =
    let found = position-Some (λ keeper. keeper.port == port) keepers at d at_port in
    let first = position_or_len_is (λ keeper. keeper.port == port) keepers at d (omega (arith, found.0)) found.2 (λ _. found.1) in
    find-set (λ keeper. keeper.port == port) keepers at new (sym first) found.0 (eq-eqb new.port port is)

-- all other ports keep their keepers
keeper_of-other : (keepers : List KeeperState) (other port at : ℕ) (d new : KeeperState) → other ≢ port
    → (get_or keepers at d).port ≡ port → new.port ≡ port → keeper_of (set keepers at new) other ≡ keeper_of keepers other
keeper_of-other keepers other port at d new apart was now =
    find_past (λ keeper. keeper.port == other) keepers at new d
    (ne_eqb _ _ (λ same. apart (sym same ∙ was)))
    (ne_eqb _ _ (λ same. apart (sym same ∙ now)))

-- what a write at a place does not change
pub map-written : (f : KeeperState → ℕ) (keepers : List KeeperState) (at : ℕ) (d new : KeeperState) → f new ≡ f (get_or keepers at d)
    → map f (set keepers at new) ≡ map f keepers
map-written f keepers at d new same =
    map-set f keepers at new ∙ ap (set (map f keepers) at) (same ∙ sym (get_or-map f keepers at d)) ∙ set-get_or (map f keepers) at (f d)

-- a piece is appended to the lane of the port's keeper
pub LaneGains-written : (keepers : List KeeperState) (port at : ℕ) (d new : KeeperState) (piece : List ℕ) → position (λ keeper. keeper.port == port) keepers ≡ Some at
    → new ≡ record (get_or keepers at d) { lane = Some (unwrap_or (get_or keepers at d).lane [] ++ piece) }
    → LaneGains (keeper_lanes keepers) port piece (keeper_lanes (set keepers at new))
LaneGains-written keepers port at d new piece at_port written =
    let found = position-Some (λ keeper. keeper.port == port) keepers at d at_port in
    let was : (get_or keepers at d).port ≡ port = eqb-true _ _ found.1 in
    let now : new.port ≡ port = ap (λ keeper. keeper.port) written ∙ was in
    record {
      lane = ap (option_and_then (λ keeper. keeper.lane)) (keeper_of-written keepers port at d new at_port now)
          ∙ ap (λ keeper. keeper.lane) written
          ∙ ap (λ one. Some (unwrap_or (option_and_then (λ keeper. keeper.lane) one) [] ++ piece)) (sym (keeper_of-found keepers port at d at_port));
      others = λ other apart. ap (option_and_then (λ keeper. keeper.lane)) (keeper_of-other keepers other port at d new apart was now);
    }

-- how much more the lane of the port's keeper takes
room_left-found : (keepers : List KeeperState) (port at : ℕ) (d : KeeperState) → position (λ keeper. keeper.port == port) keepers ≡ Some at
    → room_left keepers port ≡ (get_or keepers at d).room - length (unwrap_or (get_or keepers at d).lane [])
room_left-found keepers port at d at_port = rw (keeper_of-found keepers port at d at_port)

-- the first bytes of a piece, as many as fit
take-fits : (count room : ℕ) (piece : List ℕ) → count ≡ min (length piece) room → take count piece ≡ take room piece
take-fits count room piece fits =
    let turned : count ≡ min room (length piece) = omega arith in ap (λ n. take n piece) turned ∙ take_min room piece

-- what fits of a piece is appended to the lane of the port's keeper
pub LaneGains-appended : (keepers : List KeeperState) (port at : ℕ) (d new : KeeperState) (count : ℕ) (piece : List ℕ)
    → position (λ keeper. keeper.port == port) keepers ≡ Some at
    → count ≡ min (length piece) ((get_or keepers at d).room - length (unwrap_or (get_or keepers at d).lane []))
    → new ≡ record (get_or keepers at d) { lane = Some (unwrap_or (get_or keepers at d).lane [] ++ take count piece) }
    → LaneGains (keeper_lanes keepers) port (take (room_left keepers port) piece) (keeper_lanes (set keepers at new))
LaneGains-appended keepers port at d new count piece at_port fits written =
    let whole : take count piece ≡ take (room_left keepers port) piece =
    take-fits count (room_left keepers port) piece (fits ∙ ap (min (length piece)) (sym (room_left-found keepers port at d at_port))) in
    LaneGains-written keepers port at d new (take (room_left keepers port) piece) at_port
    (written ∙ ap (λ bytes. record (get_or keepers at d) { lane = Some (unwrap_or (get_or keepers at d).lane [] ++ bytes) }) whole)

-- and so the lane gained a prefix of the piece
pub LaneGainsPart-appended : (keepers : List KeeperState) (port at : ℕ) (d new : KeeperState) (count : ℕ) (piece : List ℕ)
    → position (λ keeper. keeper.port == port) keepers ≡ Some at
    → count ≡ min (length piece) ((get_or keepers at d).room - length (unwrap_or (get_or keepers at d).lane []))
    → new ≡ record (get_or keepers at d) { lane = Some (unwrap_or (get_or keepers at d).lane [] ++ take count piece) }
    → LaneGainsPart (keeper_lanes keepers) port piece (keeper_lanes (set keepers at new))
LaneGainsPart-appended keepers port at d new count piece at_port fits written =
    LaneGainsPart-front _ _ port _ piece (IsPrefix-take (room_left keepers port) piece)
    (LaneGainsPart-whole _ _ port _ (LaneGains-appended keepers port at d new count piece at_port fits written))

-- what is nothing is not something
pub none_or_some : (keeper : Option KeeperState) → keeper ≡ None → IsSome keeper → ⊥
none_or_some keeper none some = let both : IsSome {T = KeeperState} None = subst IsSome none some in cc

-- what is something is not nothing
pub some_or_none : (keeper : Option KeeperState) (one : KeeperState) → keeper ≡ Some one → IsNone keeper → ⊥
some_or_none keeper one some none = let both : IsNone (Some one) = subst IsNone some none in cc

-- the lane of the port's keeper
pub keeper_lanes-found : (keepers : List KeeperState) (port at : ℕ) (d : KeeperState) → position (λ keeper. keeper.port == port) keepers ≡ Some at
    → keeper_lanes keepers port ≡ (get_or keepers at d).lane
keeper_lanes-found keepers port at d at_port = ap (option_and_then (λ keeper. keeper.lane)) (keeper_of-found keepers port at d at_port)

-- a port without a place has no lane
pub keeper_lanes-none : (keepers : List KeeperState) (port : ℕ) → position (λ keeper. keeper.port == port) keepers ≡ None → keeper_lanes keepers port ≡ None
keeper_lanes-none keepers port nowhere = ap (option_and_then (λ keeper. keeper.lane)) (keeper_of-none keepers port nowhere)

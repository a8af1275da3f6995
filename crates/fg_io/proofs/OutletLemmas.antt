-- Lemmas on what the lanes of an outlet gain.
use Rattle.std.proofs.Common.{◌≡◌, ℕ, Option, None, Some, IsSome, unwrap_or, List, [], ◌++◌, refl, sym, ap, ◌∙◌, subst, append_assoc, append-nil, inl, inr}
use Rattle.std.proofs.lemmas.Bool.Decides.{eqb_tells}
use Rattle.fg_io.specs.Prefix.{IsPrefix}
use Rattle.fg_io.specs.Outlet.{Lanes, lane_of, lane_bytes, LaneGains, LaneGainsPart, Puts, PutsPart}
use Rattle.fg_io.proofs.PrefixLemmas.{IsPrefix-nil, IsPrefix-refl, IsPrefix-append, IsPrefix-trans}

-- the bytes of a lane that gained a piece
pub lane_bytes-gained : (before after : Lanes) (port : ℕ) (piece : List ℕ) → LaneGains before port piece after → lane_bytes after port ≡ lane_bytes before port ++ piece
lane_bytes-gained before after port piece gains = ap (λ lane. unwrap_or lane []) gains.lane

-- two pieces in a row
pub LaneGains-trans : (first second third : Lanes) (port : ℕ) (piece more : List ℕ) → LaneGains first port piece second → LaneGains second port more third → LaneGains first port (piece ++ more) third
LaneGains-trans first second third port piece more once again = record {
  lane = again.lane ∙ ap (λ bytes. Some (bytes ++ more)) (lane_bytes-gained first second port piece once)
      ∙ ap (λ bytes. Some bytes) (append_assoc (lane_bytes first port) piece more);
  others = λ other apart. again.others other apart ∙ once.others other apart;
}

-- lanes to which nothing was put
pub LaneGainsPart-nil : (lanes : Lanes) (port : ℕ) (piece : List ℕ) → LaneGainsPart lanes port piece lanes
LaneGainsPart-nil lanes port piece = record {
  part = [];
  front = IsPrefix-nil piece;
  bytes = sym (append-nil (lane_bytes lanes port));
  kept = λ is. is;
  others = λ other apart. refl;
}

-- all of a piece is a prefix of it
pub LaneGainsPart-whole : (before after : Lanes) (port : ℕ) (piece : List ℕ) → LaneGains before port piece after → LaneGainsPart before port piece after
LaneGainsPart-whole before after port piece gains = record {
  part = piece;
  front = IsPrefix-refl piece;
  bytes = lane_bytes-gained before after port piece gains;
  kept = λ _. subst IsSome (sym gains.lane) refl;
  others = gains.others;
}

-- a prefix of the list's front is a prefix of the list
pub LaneGainsPart-front : (before after : Lanes) (port : ℕ) (piece whole : List ℕ) → IsPrefix piece whole → LaneGainsPart before port piece after → LaneGainsPart before port whole after
LaneGainsPart-front before after port piece whole front gained = record {
  part = gained.part;
  front = IsPrefix-trans gained.part piece whole gained.front front;
  bytes = gained.bytes;
  kept = gained.kept;
  others = gained.others;
}

-- the first of two pieces, and a prefix of the second
pub LaneGainsPart-trans : (first second third : Lanes) (port : ℕ) (piece more : List ℕ) → LaneGains first port piece second → LaneGainsPart second port more third → LaneGainsPart first port (piece ++ more) third
LaneGainsPart-trans first second third port piece more once again = record {
  part = piece ++ again.part;
  front = IsPrefix-append piece again.part more again.front;
  bytes = again.bytes ∙ ap (λ bytes. bytes ++ again.part) (lane_bytes-gained first second port piece once)
      ∙ append_assoc (lane_bytes first port) piece again.part;
  kept = λ _. again.kept (subst IsSome (sym once.lane) refl);
  others = λ other apart. again.others other apart ∙ once.others other apart;
}

-- the same laws where an outlet may not tell its lanes

-- two puts in a row
pub Puts-trans : (first second third : Option Lanes) (port : ℕ) (piece more : List ℕ) → Puts first port piece second → Puts second port more third → Puts first port (piece ++ more) third
Puts-trans None None None port piece more once again = tt
Puts-trans None None (Some c) port piece more once again = absurd again
Puts-trans None (Some b) third port piece more once again = absurd once
Puts-trans (Some a) None third port piece more once again = absurd once
Puts-trans (Some a) (Some b) None port piece more once again = absurd again
Puts-trans (Some a) (Some b) (Some c) port piece more once again = LaneGains-trans a b c port piece more once again

-- an outlet to which nothing was put
pub PutsPart-nil : (lanes : Option Lanes) (port : ℕ) (piece : List ℕ) → PutsPart lanes port piece lanes
PutsPart-nil None port piece = tt
PutsPart-nil (Some a) port piece = LaneGainsPart-nil a port piece

-- all of a piece is a prefix of it
pub PutsPart-whole : (before after : Option Lanes) (port : ℕ) (piece : List ℕ) → Puts before port piece after → PutsPart before port piece after
PutsPart-whole None None port piece puts = tt
PutsPart-whole None (Some b) port piece puts = absurd puts
PutsPart-whole (Some a) None port piece puts = absurd puts
PutsPart-whole (Some a) (Some b) port piece puts = LaneGainsPart-whole a b port piece puts

-- a prefix of the list's front is a prefix of the list
pub PutsPart-front : (before after : Option Lanes) (port : ℕ) (piece whole : List ℕ) → IsPrefix piece whole → PutsPart before port piece after → PutsPart before port whole after
PutsPart-front None None port piece whole front gained = tt
PutsPart-front None (Some b) port piece whole front gained = absurd gained
PutsPart-front (Some a) None port piece whole front gained = absurd gained
PutsPart-front (Some a) (Some b) port piece whole front gained = LaneGainsPart-front a b port piece whole front gained

-- the first of two pieces, and a prefix of the second
pub PutsPart-trans : (first second third : Option Lanes) (port : ℕ) (piece more : List ℕ) → Puts first port piece second → PutsPart second port more third → PutsPart first port (piece ++ more) third
PutsPart-trans None None None port piece more once again = tt
PutsPart-trans None None (Some c) port piece more once again = absurd again
PutsPart-trans None (Some b) third port piece more once again = absurd once
PutsPart-trans (Some a) None third port piece more once again = absurd once
PutsPart-trans (Some a) (Some b) None port piece more once again = absurd again
PutsPart-trans (Some a) (Some b) (Some c) port piece more once again = LaneGainsPart-trans a b c port piece more once again

-- what each lane is follows from what it was
pub LaneGains-once : (before after other : Lanes) (port : ℕ) (piece : List ℕ) → LaneGains before port piece after → LaneGains before port piece other
    → (any : ℕ) → lane_of other any ≡ lane_of after any
LaneGains-once before after other port piece gains again any = elim (eqb_tells any port) [
  | inl same ↦ ap (lane_of other) same.1 ∙ again.lane ∙ sym gains.lane ∙ ap (lane_of after) (sym same.1)
  | inr apart ↦ again.others any apart.1 ∙ sym (gains.others any apart.1)
]

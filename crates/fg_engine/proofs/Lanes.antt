-- How the lanes of several ports grow, piece after piece.
use Rattle.std.proofs.Common.{◌≡◌, ◌⊎◌, inl, inr, ℕ, ◌<◌, Option, Some, None, IfSome, IsSome, List, [], ◌∷◌, ◌++◌, nat_eq, ◌+◌, length, slice_index, unwrap_or, refl, sym, ap, ◌∙◌, subst, arith, append_assoc, append-nil, cond}
use Rattle.std.specs.List.{Contains}
use Rattle.std.proofs.lemmas.Bool.{cases_eq}
use Rattle.std.proofs.lemmas.List.{get_or_default}
use Rattle.std.proofs.lemmas.List.Elements.{Contains-get_or}
use Rattle.std.proofs.lemmas.Bool.Decides.{nat_tests}
use Rattle.fg_io.specs.Outlet.{Lanes, lane_of, lane_bytes, WhereTold, Puts, PutsPart, LaneGains, LaneGainsPart}
use Rattle.fg_engine.specs.Engine.{LaneGrown, LanesGrow, GrowAll, AreThere}
use Rattle.fg_engine.specs.Steps.{LaneGrows, Grows}

-- Where lanes are told

pub told_map : (P R : Lanes → Lanes → Type 0) → ((x y : Lanes) → P x y → R x y) → (a b : Option Lanes) → WhereTold P a b → WhereTold R a b
told_map P R f (Some x) (Some y) h = f x y h
told_map P R f (Some x) None h = absurd h
told_map P R f None (Some y) h = absurd h
told_map P R f None None h = tt

pub told_then : (P Q R : Lanes → Lanes → Type 0) → ((x y z : Lanes) → P x y → Q y z → R x z) → (a b c : Option Lanes) → WhereTold P a b → WhereTold Q b c → WhereTold R a c
told_then P Q R f (Some x) (Some y) (Some z) h k = f x y z h k
told_then P Q R f (Some x) (Some y) None h k = absurd k
told_then P Q R f (Some x) None c h k = absurd h
told_then P Q R f None (Some y) c h k = absurd h
told_then P Q R f None None (Some z) h k = absurd k
told_then P Q R f None None None h k = tt

-- One port has gained more.
abbrev pub more : (ℕ → List ℕ) → ℕ → List ℕ → ℕ → List ℕ
more gained port piece q = cond (nat_eq q port) (gained q ++ piece) (gained q)

pub more_same : (gained : ℕ → List ℕ) (port : ℕ) (piece : List ℕ) → more gained port piece port ≡ gained port ++ piece
more_same gained port piece = grind (arith, nat_tests)

pub more_other : (gained : ℕ → List ℕ) (port : ℕ) (piece : List ℕ) (q : ℕ) → (q ≡ port → ⊥) → more gained port piece q ≡ gained q
more_other gained port piece q ne = grind (arith, nat_tests)

lane_more :
    (before now after : Lanes) (ports : List ℕ) (gained : ℕ → List ℕ) (port : ℕ) (piece : List ℕ)
    → LanesGrow before ports gained now → LaneGrows now port piece after → (q : ℕ) → Contains ports q
    → (q ≡ port) ⊎ (q ≡ port → ⊥) → LaneGrown before after q (more gained port piece q)
lane_more before now after ports gained port piece g h q k (inl e) =
    let same : LaneGrown before now port (gained port) = g.lanes port (subst (Contains ports) e k) in
    subst (λ p. LaneGrown before after p (more gained port piece p)) (sym e) (record {
      bytes = h.bytes ∙ ap (λ t. t ++ piece) same.bytes ∙ append_assoc (lane_bytes before port) (gained port) piece
          ∙ ap (λ t. lane_bytes before port ++ t) (sym (more_same gained port piece));
      kept = λ s. h.kept (same.kept s);
    })
lane_more before now after ports gained port piece g h q k (inr ne) =
    let stays : lane_of after q ≡ lane_of now q = h.others q ne in
    record {
      bytes = ap (λ t. unwrap_or t []) stays ∙ (g.lanes q k).bytes ∙ ap (λ t. lane_bytes before q ++ t) (sym (more_other gained port piece q ne));
      kept = λ s. subst IsSome (sym stays) ((g.lanes q k).kept s);
    }

lanes_more :
    (ports : List ℕ) (gained : ℕ → List ℕ) (port : ℕ) (piece : List ℕ) → Contains ports port
    → (before now after : Lanes) → LanesGrow before ports gained now → LaneGrows now port piece after
    → LanesGrow before ports (more gained port piece) after
lanes_more ports gained port piece c before now after g h = record {
  lanes = λ q k. lane_more before now after ports gained port piece g h q k (cases_eq q port);
  others = λ q k. h.others q (λ e. k (subst (Contains ports) (sym e) c)) ∙ g.others q k;
}

pub grow_more :
    (before now after : Option Lanes) (ports : List ℕ) (gained : ℕ → List ℕ) (port : ℕ) (piece : List ℕ)
    → Contains ports port → GrowAll before ports gained now → Grows now port piece after
    → GrowAll before ports (more gained port piece) after
grow_more before now after ports gained port piece c g h =
    told_then (λ old new. LanesGrow old ports gained new) (λ old new. LaneGrows old port piece new)
    (λ old new. LanesGrow old ports (more gained port piece) new)
    (lanes_more ports gained port piece c) before now after g h

pub there_at : (now after : Lanes) (port : ℕ) (piece : List ℕ) → LaneGrows now port piece after → (q : ℕ) → IsSome (lane_of now q) → (q ≡ port) ⊎ (q ≡ port → ⊥) → IsSome (lane_of after q)
there_at now after port piece h q s (inl e) = subst (λ p. IsSome (lane_of after p)) (sym e) (h.kept (subst (λ p. IsSome (lane_of now p)) e s))
there_at now after port piece h q s (inr ne) = subst IsSome (sym (h.others q ne)) s

pub there_more : (now after : Option Lanes) (ports : List ℕ) (port : ℕ) (piece : List ℕ) → AreThere ports now → Grows now port piece after → AreThere ports after
there_more (Some now) (Some after) ports port piece t h = λ q k. there_at now after port piece h q (t q k) (cases_eq q port)
there_more (Some now) None ports port piece t h = tt
there_more None (Some after) ports port piece t h = absurd h
there_more None None ports port piece t h = tt

-- Nothing is gained

pub grown_none : (now : Lanes) (q : ℕ) → LaneGrown now now q []
grown_none now q = record { bytes = sym (append-nil (lane_bytes now q)); kept = λ s. s }

pub grow_none : (now : Option Lanes) (ports : List ℕ) → GrowAll now ports (λ _. []) now
grow_none (Some now) ports = record { lanes = λ q k. grown_none now q; others = λ q k. refl }
grow_none None ports = tt

lane_still :
    (before now after : Lanes) (ports : List ℕ) (gained : ℕ → List ℕ) (port : ℕ)
    → LanesGrow before ports gained now → LaneGrows now port [] after → (q : ℕ) → Contains ports q
    → (q ≡ port) ⊎ (q ≡ port → ⊥) → LaneGrown before after q (gained q)
lane_still before now after ports gained port g h q k (inl e) =
    let same : LaneGrown before now port (gained port) = g.lanes port (subst (Contains ports) e k) in
    subst (λ p. LaneGrown before after p (gained p)) (sym e) (record {
      bytes = h.bytes ∙ append-nil (lane_bytes now port) ∙ same.bytes;
      kept = λ s. h.kept (same.kept s);
    })
lane_still before now after ports gained port g h q k (inr ne) =
    let stays : lane_of after q ≡ lane_of now q = h.others q ne in
    record {
      bytes = ap (λ t. unwrap_or t []) stays ∙ (g.lanes q k).bytes;
      kept = λ s. subst IsSome (sym stays) ((g.lanes q k).kept s);
    }

lanes_still :
    (ports : List ℕ) (gained : ℕ → List ℕ) (port : ℕ) → Contains ports port
    → (before now after : Lanes) → LanesGrow before ports gained now → LaneGrows now port [] after
    → LanesGrow before ports gained after
lanes_still ports gained port c before now after g h = record {
  lanes = λ q k. lane_still before now after ports gained port g h q k (cases_eq q port);
  others = λ q k. h.others q (λ e. k (subst (Contains ports) (sym e) c)) ∙ g.others q k;
}

pub grow_still :
    (before now after : Option Lanes) (ports : List ℕ) (gained : ℕ → List ℕ) (port : ℕ)
    → Contains ports port → GrowAll before ports gained now → Grows now port [] after → GrowAll before ports gained after
grow_still before now after ports gained port c g h =
    told_then (λ old new. LanesGrow old ports gained new) (λ old new. LaneGrows old port [] new)
    (λ old new. LanesGrow old ports gained new)
    (lanes_still ports gained port c) before now after g h

-- a put of nothing
nothing_of_part : (part rest : List ℕ) → [] ≡ part ++ rest → part ≡ []
nothing_of_part [] rest e = refl
nothing_of_part (x ∷ part) rest e = cc

put_grows : (port : ℕ) (before after : Lanes) → LaneGains before port [] after → LaneGrows before port [] after
put_grows port before after h = record {
  bytes = ap (λ t. unwrap_or t []) h.lane;
  kept = λ s. subst IsSome (sym h.lane) refl;
  others = h.others;
}

pub puts_grows : (port : ℕ) (before after : Option Lanes) → Puts before port [] after → Grows before port [] after
puts_grows port before after h = told_map (λ old new. LaneGains old port [] new) (λ old new. LaneGrows old port [] new) (put_grows port) before after h

part_grows : (port : ℕ) (before after : Lanes) → LaneGainsPart before port [] after → LaneGrows before port [] after
part_grows port before after h = record {
  bytes = h.bytes ∙ ap (λ t. lane_bytes before port ++ t) (nothing_of_part h.part h.front.0 h.front.1);
  kept = h.kept;
  others = h.others;
}

pub puts_part_grows : (port : ℕ) (before after : Option Lanes) → PutsPart before port [] after → Grows before port [] after
puts_part_grows port before after h = told_map (λ old new. LaneGainsPart old port [] new) (λ old new. LaneGrows old port [] new) (part_grows port) before after h

-- The first ports have their lanes.
abbrev pub AreMade : List ℕ → ℕ → Option Lanes → Type 0
AreMade ports count lanes = IfSome lanes (λ told. (k : ℕ) → k < count → IsSome (lane_of told (slice_index ports k)))

pub made_none : (ports : List ℕ) (lanes : Option Lanes) → AreMade ports 0 lanes
made_none ports None = tt
made_none ports (Some told) = λ k below. absurd (omega arith)

made_at : (ports : List ℕ) (now after : Lanes) (i k : ℕ) → LaneGains now (slice_index ports i) [] after → (k < i → IsSome (lane_of now (slice_index ports k))) → k < i + 1 → (k ≡ i) ⊎ (k ≡ i → ⊥) → IsSome (lane_of after (slice_index ports k))
made_at ports now after i k h before below (inl e) = subst (λ j. IsSome (lane_of after (slice_index ports j))) (sym e) (subst IsSome (sym h.lane) refl)
made_at ports now after i k h before below (inr ne) =
    there_at now after (slice_index ports i) [] (put_grows (slice_index ports i) now after h) (slice_index ports k) (before (omega arith)) (cases_eq (slice_index ports k) (slice_index ports i))

pub made_more : (ports : List ℕ) (now after : Option Lanes) (i : ℕ) → AreMade ports i now → Puts now (slice_index ports i) [] after → AreMade ports (i + 1) after
made_more ports (Some now) (Some after) i m h = λ k below. made_at ports now after i k h (m k) below (cases_eq k i)
made_more ports (Some now) None i m h = tt
made_more ports None (Some after) i m h = absurd h
made_more ports None None i m h = tt

pub made_all : (ports : List ℕ) (lanes : Option Lanes) (count : ℕ) → count ≡ length ports → AreMade ports count lanes → AreThere ports lanes
made_all ports None count e m = tt
made_all ports (Some told) count e m = λ port k. subst (λ p. IsSome (lane_of told p)) (get_or_default ports k.0 0 port k.1 ∙ k.2) (m k.0 (omega arith))

pub contains_at : (ports : List ℕ) (i : ℕ) → i < length ports → Contains ports (slice_index ports i)
contains_at ports i h = Contains-get_or ports i 0 h

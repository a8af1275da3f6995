-- What the table's map from ports to flows holds. No public contract cites it.
use Rattle.std.specs.Prelude.{◌≡◌, ◌<◌, ℕ, List, Some, nat_eq, slice_index}
use Rattle.std.specs.declared.hash.FoldHasher.{FoldHasher}
use Rattle.std.specs.declared.hash.BuildHasherDefault.{BuildHasherDefault}
use Rattle.std.specs.HashMap.{get, HashMap}
use Rattle.fg_shape.specs.declared.kind.Kind.{Kind}
use Rattle.fg_shape.specs.Kind.{port_of}

-- a map from ports to flows and kinds
abbrev pub Owners : Type 0
Owners = HashMap ℕ (ℕ × Kind) (BuildHasherDefault FoldHasher)

-- The map has the three ports of each of the first n flows, and no others.
pub record IsIndex (flows : List ℕ) (n : ℕ) (owners : Owners) : Type 0 where
  pub found : (port i : ℕ) (kind : Kind) → get nat_eq owners port ≡ Some (i, kind) → (i < n) × (port_of (slice_index flows i) kind ≡ port)
  pub complete : (port i : ℕ) (kind : Kind) → i < n → port_of (slice_index flows i) kind ≡ port → get nat_eq owners port ≡ Some (i, kind)

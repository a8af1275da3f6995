-- A choice by the order of two numbers.
use Rattle.std.proofs.Common.{◌≡◌, ◌<◌, ◌≤◌, ℕ, nat_lt, if◌then◌else◌, cond, ap}
use Rattle.std.proofs.lemmas.Bool.{lt-ltb, le-ltb}

pub if-less : {A : Type 0} (a b : ℕ) (x y : A) → a < b → (if nat_lt a b then x else y) ≡ x
if-less a b x y h = ap (λ t. cond t x y) (lt-ltb a b h)

pub if-not_less : {A : Type 0} (a b : ℕ) (x y : A) → b ≤ a → (if nat_lt a b then x else y) ≡ y
if-not_less a b x y h = ap (λ t. cond t x y) (le-ltb a b h)

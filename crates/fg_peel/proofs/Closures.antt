-- The closure is the least closed set.
use Rattle.std.proofs.Common.{ℕ, List, Option, IsSome}
use Rattle.std.specs.List.{Contains}
use Rattle.fg_words.specs.declared.Word.{Word}
use Rattle.fg_peel.specs.Equation.{Equation}
use Rattle.fg_peel.specs.Closure.{InClosure, IsClosed, given, derived}

pub closure_closed : (known : ℕ → Option Word) (equations : List Equation) → IsClosed known equations (InClosure known equations)
closure_closed known equations = record {
  given = λ position h. given h;
  derived = λ equation position listed slot inside. derived equation listed slot inside;
}

pub closure_least :
    (known : ℕ → Option Word) (equations : List Equation) (inside : ℕ → Type 0) → IsClosed known equations inside
    → (position : ℕ) → InClosure known equations position → inside position
closure_least known equations inside closed position (given h) = closed.given position h
closure_least known equations inside closed position (derived equation listed slot others) =
    closed.derived equation position listed slot (λ q c n. closure_least known equations inside closed q (others q c n))

pub closure_grows :
    (less more : ℕ → Option Word) (few many : List Equation)
    → ((q : ℕ) → IsSome (less q) → IsSome (more q))
    → ((equation : Equation) → Contains few equation → Contains many equation)
    → (q : ℕ) → InClosure less few q → InClosure more many q
closure_grows less more few many known listed = closure_least less few (InClosure more many) (record {
  given = λ q h. given (known q h);
  derived = λ equation q l s inside. derived equation (listed equation l) s inside;
})

pub closure_final :
    (known more : ℕ → Option Word) (equations : List Equation)
    → ((q : ℕ) → IsSome (more q) → InClosure known equations q)
    → (q : ℕ) → InClosure more equations q → InClosure known equations q
closure_final known more equations inside = closure_least more equations (InClosure known equations) (record {
  given = inside;
  derived = λ equation q l s others. derived equation l s others;
})

-- What holds of all runs.
use Rattle.std.specs.Prelude.{◌≡◌, ℕ, ◌+◌, ◌<◌, ◌≤◌, List, ◌++◌, Some}
use Rattle.hipe_terms.specs.declared.constant.Call.{Call}
use Rattle.hipe_terms.specs.Terms.{Term}
use Rattle.hipe_terms.specs.declared.class.Class.{Class}
use Rattle.core_ast.specs.Trees.{Module, Expression}
use Rattle.core_meaning.specs.Procedures.{Program, program_of}
use Rattle.core_meaning.specs.Meaning.{State, Ending, Run, Limits, Next, Handler, Context, eval, calls_within}
use Rattle.core_meaning.specs.Source.{unlimited, run_within, source_run}

-- ---- counts only grow

abbrev pub Prefix : List Term → List Term → Type 0
Prefix a b = (c : List Term) × (b ≡ a ++ c)

-- t may come after s along a run: nothing that was counted or printed is taken back, and no fuel comes back
pub record Later (s t : State) : Type 0 where
  pub fuel : t.fuel ≤ s.fuel
  pub words : s.words ≤ t.words
  pub claim : s.claim ≤ t.claim
  pub work : s.work ≤ t.work
  pub printed : Prefix s.printed t.printed

-- a run that goes on from s
pub record Grown (s : State) (x : Run) : Type 0 where
  pub later : Later s x.state

abbrev pub NextGrows : Next → Type 0
NextGrows k = (ts : List Term) (s : State) → Grown s (k ts s)

abbrev pub HandlerGrows : Handler → Type 0
HandlerGrows r = (class : Class) (reason : Term) (s : State) → Grown s (r class reason s)

-- evaluating an expression takes nothing back, where what comes next takes nothing back
abbrev pub EvaluationGrows : Type 0
EvaluationGrows =
    (program : Program) (limits : Limits) (depth : ℕ) (e : Expression) (c : Context) (s : State) (r : Handler) (k : Next)
    → HandlerGrows r → NextGrows k → Grown s (eval program limits (calls_within program limits depth) e c s r k)

-- ---- fuel

-- what comes of `extra` more fuel: the same, with so much more left; or, where the fuel was spent, more of the same
pub data Agrees (extra : ℕ) (x y : Run) : Type 0 where
  same : x.ending ≡ y.ending → y.state ≡ record x.state { fuel = x.state.fuel + extra } → Agrees extra x y
  spent : x.ending ≡ Ending.fuel_spent → x.state.words ≤ y.state.words → x.state.claim ≤ y.state.claim → x.state.work ≤ y.state.work → Prefix x.state.printed y.state.printed → Agrees extra x y

-- More fuel changes nothing once the fuel isn't spent, and what is printed only grows.
abbrev pub MoreFuelAgrees : Type 0
MoreFuelAgrees = (m : Module) (c : Call) (fuel extra : ℕ) → Agrees extra (source_run m c fuel) (source_run m c (fuel + extra))

-- A run whose fuel is spent entered as many functions, behind the first, as it had fuel: it is the run up to the application that finds none.
abbrev pub SpentFuelIsGone : Type 0
SpentFuelIsGone = (m : Module) (c : Call) (fuel : ℕ) → (source_run m c fuel).ending ≡ Ending.fuel_spent → (source_run m c fuel).state.fuel ≡ 0

-- ---- limits

abbrev pub IsPlain : Ending → Type 0
IsPlain Ending.heap_full = ⊥
IsPlain Ending.stack_full = ⊥
IsPlain e = Unit {0}

-- The run x under limits on the heap and the stack, and the whole run y: x is y within the heap; or the words of y pass the heap, and x ends
-- there; or the claim of y passes the stack, and x ends at an entry. In the last two cases x printed a prefix of what y does.
pub data Within (heap stack : ℕ) (x y : Run) : Type 0 where
  same : x.ending ≡ y.ending → IsPlain y.ending → x.state.fuel ≡ y.state.fuel → x.state.printed ≡ y.state.printed → x.state.words ≡ y.state.words → y.state.words ≤ heap → Within heap stack x y
  heap_full : x.ending ≡ Ending.heap_full → heap < y.state.words → Prefix x.state.printed y.state.printed → Within heap stack x y
  stack_full : x.ending ≡ Ending.stack_full → stack < y.state.claim → Prefix x.state.printed y.state.printed → Within heap stack x y

abbrev pub limited : (heap stack : ℕ) (frame : ℕ → ℕ) → Limits
limited heap stack frame = record { heap = Some heap; stack = Some stack; frame = frame }

-- for all frames that are at most what is claimed
abbrev pub LimitsAreExact : Type 0
LimitsAreExact =
    (m : Module) (c : Call) (fuel heap stack : ℕ) (frame : ℕ → ℕ) → ((n : ℕ) → frame n ≤ (unlimited (program_of m)).frame n)
    → Within heap stack (run_within (program_of m) (limited heap stack frame) c fuel) (source_run m c fuel)

-- The machine on the code of a sum.
use Rattle.std.proofs.Common.{◌≡◌, ◌≢◌, ℕ, zero, suc, ◌+◌, ◌-◌, ◌*◌, ◌^◌, ◌<◌, ◌≤◌, ℤ, ◌+ℤ◌, List, [], ◌∷◌, ◌++◌, length, Some, refl, sym, ap, ◌∙◌, subst, arith, append_assoc, length-set}
use Rattle.std.specs.Prelude.{slice_get, slice_set}
use Rattle.amd64_form.specs.declared.inst.Inst.{Inst}
use Rattle.amd64_form.specs.declared.inst.Inst.TheVariants.{LoadConstant, Push, Pop, Return}
use Rattle.amd64_form.specs.declared.reg.Reg.TheVariants.{Rax, Rcx, Rsp}
use Rattle.region_memory.specs.declared.layout.TheConstants.{STACK_BEGIN}
use Rattle.region_memory.specs.Regions.{Regions, IsWithinLimits, word_at, with_word}
use Rattle.heap_terms.specs.Integers.{IsInteger, word_of}
use Rattle.heap_terms.specs.Shapes.{Symbols}
use Rattle.amd64_machine.specs.declared.state.Flags.{Flags}
use Rattle.amd64_machine.specs.Arithmetic.{wrap}
use Rattle.amd64_machine.specs.Fetch.{Here, fetch}
use Rattle.amd64_machine.specs.Machine.{Registers, State, On, put, pushed, popped, gone_back, act, below, stepped, machine_run}
use Rattle.core_sum.specs.declared.sum.Sum.{Sum, roll-Sum}
use Rattle.core_sum.specs.declared.sum.Sum.TheOpen.{Sum-F}
use Rattle.core_sum.specs.declared.sum.Sum.TheFolds.{ind-Sum, map-Sum}
use Rattle.core_sum.specs.Sums.{int_of, plus_of, value, count_of, HasSmallIntegers}
use Rattle.core_sum.proofs.Levels.{value-int, value-plus, count-int, count-plus, farthest-plus}
use Rattle.sum_code.specs.Code.{Code, addition, evaluation}
use Rattle.sum_code.proofs.Integers.{sum_word, count_some, small_value}
use Rattle.sum_code.proofs.Levels.{evaluation-int, evaluation-plus}
use Rattle.sum_code.proofs.Stack.{SameFrom, set_get_same, set_get_other, with_stack, stack_read, stack_written}

-- the instructions stand in the code from the address on
abbrev pub Has : List ℕ → ℕ → Code → Type 0
Has code at [] = Unit {0}
Has code at (i ∷ is) = (next : ℕ) × (fetch code at ≡ Here i next) × Has code next is

-- ---- code

small_left : (a b : Sum) → HasSmallIntegers (plus_of a b) → HasSmallIntegers a
small_left a b small = omega (arith, farthest-plus a b)

small_right : (a b : Sum) → HasSmallIntegers (plus_of a b) → HasSmallIntegers b
small_right a b small = omega (arith, farthest-plus a b)

-- the code of a sum of two, with what comes after it
parts : (a b : Code) (rest : Code) → a ++ (Push Rax ∷ []) ++ b ++ addition ++ rest ≡ a ++ (Push Rax ∷ (b ++ (addition ++ rest)))
parts a b rest = append_assoc (a ++ (Push Rax ∷ []) ++ b) addition rest ∙ append_assoc (a ++ (Push Rax ∷ [])) b (addition ++ rest) ∙ append_assoc a (Push Rax ∷ []) (b ++ (addition ++ rest))

-- the words that wait on the stack come back after the second part
kept : (j w : ℕ) (old pushed new : List ℕ) → SameFrom (suc j) old pushed → SameFrom j (slice_set pushed j w) new → SameFrom (suc j) old new
kept j w old pushed new first second i le =
    let le' : j ≤ i = omega arith in
    let other : i ≢ j = omega arith in
    second i le' ∙ set_get_other pushed j i w other ∙ first i le

-- a run of a program with these symbols in this memory, of which only the stack changes, and which displays nothing
module _ (symbols : Symbols) (regions : Regions) (limits : IsWithinLimits regions) where
  -- a state between two instructions
  abbrev pub on : ℕ → Registers → Flags → List ℕ → State
  on at registers flags stack = On at registers flags (with_stack regions stack) []

  module _ (P : State → Type 0) where
    -- after so many steps at the most it comes to a state that meets P
    pub record Within (most : ℕ) (s : State) : Type 0 where
      pub steps : ℕ
      pub few : steps ≤ most
      pub is : P (machine_run symbols steps s)

    pub at_once : {s : State} → P s → Within 0 s
    at_once p = record { steps = 0; few = omega arith; is = p }

    pub more : {m n : ℕ} {s : State} → m ≤ n → Within m s → Within n s
    more le w = record { steps = w.steps; few = omega (arith, w.few); is = w.is }

    -- ---- steps

    pub go : {m at next : ℕ} {i : Inst} {registers : Registers} {flags : Flags} (stack : List ℕ) → fetch regions.code at ≡ Here i next
        → Within m (stepped symbols at registers (with_stack regions stack) [] (act (Here i next) registers flags (with_stack regions stack))) → Within (suc m) (on at registers flags stack)
    go {at = at} {registers = registers} {flags = flags} stack e w =
        record {
          steps = suc w.steps;
          few = omega (arith, w.few);
          is = subst (λ f. P (machine_run symbols w.steps (stepped symbols at registers (with_stack regions stack) [] (act f registers flags (with_stack regions stack))))) (sym e) w.is;
        }

    push : {m at next : ℕ} {registers : Registers} {flags : Flags} (stack : List ℕ) (k : ℕ) → fetch regions.code at ≡ Here (Push Rax) next → length stack ≡ length regions.stack → k < length stack → registers 4 ≡ STACK_BEGIN + 8 * suc k
        → Within m (on next (put Rsp (STACK_BEGIN + 8 * k) registers) flags (slice_set stack k (registers 0))) → Within (suc m) (on at registers flags stack)
    push {m = m} {at = at} {next = next} {registers = registers} {flags = flags} stack k e size lt top w =
        let least = limits.stack in
        let lower : below (registers 4) ≡ STACK_BEGIN + 8 * k = omega (arith, top) in
        let written : with_word (with_stack regions stack) (below (registers 4)) (registers 0) ≡ Some (with_stack regions (slice_set stack k (registers 0))) =
        ap (λ a. with_word (with_stack regions stack) a (registers 0)) lower ∙ stack_written regions stack k (registers 0) limits size lt in
        go stack e (subst (λ o. Within m (stepped symbols at registers (with_stack regions stack) [] (pushed next registers flags o))) (sym written)
        (subst (λ a. Within m (on next (put Rsp a registers) flags (slice_set stack k (registers 0)))) (sym lower) w))

    pop : {m at next : ℕ} {registers : Registers} {flags : Flags} (stack : List ℕ) (k word : ℕ) → fetch regions.code at ≡ Here (Pop Rcx) next → length stack ≡ length regions.stack → k < length stack → registers 4 ≡ STACK_BEGIN + 8 * k → slice_get stack k ≡ Some word
        → Within m (on next (put Rcx word (put Rsp (STACK_BEGIN + 8 * suc k) registers)) flags stack) → Within (suc m) (on at registers flags stack)
    pop {m = m} {at = at} {next = next} {registers = registers} {flags = flags} stack k word e size lt top there w =
        let least = limits.stack in
        let higher : wrap (registers 4 + 8) ≡ STACK_BEGIN + 8 * suc k = omega (arith, top) in
        let read : word_at (with_stack regions stack) (registers 4) ≡ Some word = ap (λ a. word_at (with_stack regions stack) a) top ∙ stack_read regions stack k limits size lt ∙ there in
        go stack e (subst (λ o. Within m (stepped symbols at registers (with_stack regions stack) [] (popped next Rcx registers flags (with_stack regions stack) o))) (sym read)
        (subst (λ a. Within m (on next (put Rcx word (put Rsp a registers)) flags stack)) (sym higher) w))

    pub go_back : {m at next : ℕ} {registers : Registers} {flags : Flags} (stack : List ℕ) (k target : ℕ) → fetch regions.code at ≡ Here Return next → length stack ≡ length regions.stack → k < length stack → registers 4 ≡ STACK_BEGIN + 8 * k → slice_get stack k ≡ Some target
        → Within m (on target (put Rsp (STACK_BEGIN + 8 * suc k) registers) flags stack) → Within (suc m) (on at registers flags stack)
    go_back {m = m} {at = at} {registers = registers} {flags = flags} stack k target e size lt top there w =
        let least = limits.stack in
        let higher : wrap (registers 4 + 8) ≡ STACK_BEGIN + 8 * suc k = omega (arith, top) in
        let read : word_at (with_stack regions stack) (registers 4) ≡ Some target = ap (λ a. word_at (with_stack regions stack) a) top ∙ stack_read regions stack k limits size lt ∙ there in
        go stack e (subst (λ o. Within m (stepped symbols at registers (with_stack regions stack) [] (gone_back registers flags (with_stack regions stack) o))) (sym read)
        (subst (λ a. Within m (on target (put Rsp a registers) flags stack)) (sym higher) w))

    -- ---- a sum

    -- it goes on with the value in rax, and the stack as it was from the k-th word on
    abbrev pub Ready : ℤ → ℕ → ℕ → Code → List ℕ → Type 0
    Ready v k m rest stack =
        (at : ℕ) (registers : Registers) (flags : Flags) (new : List ℕ) → Has regions.code at rest → registers 4 ≡ STACK_BEGIN + 8 * k → registers 0 ≡ word_of v → length new ≡ length stack → SameFrom k stack new → Within m (on at registers flags new)

    -- a place in the code from which a sum is evaluated, with k words of the stack free
    pub record Place (e : Sum) (k : ℕ) (rest : Code) (at : ℕ) (registers : Registers) (stack : List ℕ) : Type 0 where
      pub small : HasSmallIntegers e
      pub room : count_of e ≤ k
      pub free : k ≤ length stack
      pub size : length stack ≡ length regions.stack
      pub top : registers 4 ≡ STACK_BEGIN + 8 * k
      pub has : Has regions.code at (evaluation e ++ rest)

    abbrev Claim : Sum → Type 0
    Claim e =
        (k m n : ℕ) (rest : Code) (at : ℕ) (registers : Registers) (flags : Flags) (stack : List ℕ) → Place e k rest at registers stack → count_of e ≤ 32768 → 5 * count_of e + m ≤ n + 4
        → Ready (value e) k m rest stack → Within n (on at registers flags stack)

    int_runs : (v : ℤ) → Claim (int_of v)
    int_runs v k m n rest at registers flags stack p few enough ready =
        let has : Has regions.code at (LoadConstant Rax (word_of v) ∷ rest) = subst (λ c. Has regions.code at (c ++ rest)) (evaluation-int v) p.has in
        more (omega (arith, count-int v)) (go stack has.1
        (subst (λ w. Ready w k m rest stack) (value-int v) ready has.0 (put Rax (word_of v) registers) flags stack has.2 p.top refl refl (λ i le. refl)))

    add_runs : (a b : Sum) (j m : ℕ) (rest : Code) (at : ℕ) (registers : Registers) (flags : Flags) (old stack : List ℕ) → Has regions.code at (addition ++ rest) → IsInteger (value a) → IsInteger (value b) → IsInteger (value a +ℤ value b)
        → j < length stack → length stack ≡ length regions.stack → registers 4 ≡ STACK_BEGIN + 8 * j → slice_get stack j ≡ Some (word_of (value a)) → registers 0 ≡ word_of (value b) → length stack ≡ length old → SameFrom (suc j) old stack
        → Ready (value a +ℤ value b) (suc j) m rest old → Within (suc (suc (suc m))) (on at registers flags stack)
    add_runs a b j m rest at registers flags old stack has ia ib ic lt whole top there right size same ready =
        let w = word_of (value a) in
        let total : wrap (wrap (registers 0 + w) + (2 ^ 64 - 15)) ≡ word_of (value a +ℤ value b) = ap (λ x. wrap (wrap (x + w) + (2 ^ 64 - 15))) right ∙ sum_word (value a) (value b) ia ib ic in
        pop stack j w has.1 whole lt top there (go stack has.2.1 (go stack has.2.2.1 (ready has.2.2.0 _ _ stack has.2.2.2 refl total size same)))

    plus_runs : (a b : Sum) → Claim a → Claim b → Claim (plus_of a b)
    plus_runs a b left right zero m n rest at registers flags stack p few enough ready =
        absurd (let some = count_some a in omega (arith, p.room, count-plus a b, some))
    plus_runs a b left right (suc j) m n rest at registers flags stack p few enough ready =
        let counts = count-plus a b in
        let some_a = count_some a in
        let some_b = count_some b in
        let room = p.room in
        let free = p.free in
        let small_a = small_left a b p.small in
        let small_b = small_right a b p.small in
        let ia = small_value a small_a (omega arith) in
        let ib = small_value b small_b (omega arith) in
        let ic = subst IsInteger (value-plus a b) (small_value (plus_of a b) p.small few) in
        let has : Has regions.code at (evaluation a ++ (Push Rax ∷ (evaluation b ++ (addition ++ rest)))) = subst (Has regions.code at) (ap (λ c. c ++ rest) (evaluation-plus a b) ∙ parts (evaluation a) (evaluation b) rest) p.has in
        let whole : Ready (value a +ℤ value b) (suc j) m rest stack = subst (λ v. Ready v (suc j) m rest stack) (value-plus a b) ready in
        let later : ℕ = 5 * count_of b + m - 1 in
        left (suc j) (suc later) n (Push Rax ∷ (evaluation b ++ (addition ++ rest))) at registers flags stack
        (record { small = small_a; room = omega arith; free = free; size = p.size; top = p.top; has = has }) (omega arith) (omega arith)
        (λ at1 registers1 flags1 stack1 has1 top1 value1 size1 same1.
        let within1 : j < length stack1 = omega arith in
        let whole1 : length stack1 ≡ length regions.stack = size1 ∙ p.size in
        let stack2 : List ℕ = slice_set stack1 j (registers1 0) in
        let size2 : length stack2 ≡ length stack1 = length-set stack1 j (registers1 0) in
        push stack1 j has1.1 whole1 within1 top1
        (right j (suc (suc (suc m))) later (addition ++ rest) has1.0 (put Rsp (STACK_BEGIN + 8 * j) registers1) flags1 stack2
        (record { small = small_b; room = omega arith; free = omega arith; size = size2 ∙ whole1; top = refl; has = has1.2 }) (omega arith) (omega arith)
        (λ at3 registers3 flags3 stack3 has3 top3 value3 size3 same3.
        let size13 : length stack3 ≡ length stack1 = size3 ∙ size2 in
        let there : slice_get stack3 j ≡ Some (word_of (value a)) = same3 j (omega arith) ∙ set_get_same stack1 j (registers1 0) within1 ∙ ap Some value1 in
        add_runs a b j m rest at3 registers3 flags3 stack stack3 has3 ia ib ic (omega arith) (size13 ∙ whole1) top3 there value3 (size13 ∙ size1)
        (kept j (registers1 0) stack stack1 stack3 same1 same3) whole)))

    claim_step : (y : Sum-F ((e : Sum) × Claim e)) → Claim (roll-Sum (map-Sum ((e : Sum) × Claim e) Sum (λ e. e.0) y))
    unfolding int_of plus_of
    claim_step (Sum-F.Int n) = int_runs n
    claim_step (Sum-F.Plus a b) = plus_runs a.0 b.0 a.1 b.1

    pub sum_runs : (e : Sum) → Claim e
    sum_runs = ind-Sum Claim (λ x y is. subst (λ z. Claim (roll-Sum z)) is (claim_step y))

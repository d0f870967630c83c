use Rattle.std.proofs.Common.{rules, ◌≡◌, ◌/◌, ◌<◌, ◌≤◌, ◌⊎◌, ℕ, length, arith, sym, ap, ◌∙◌, subst, inl, inr}
use Rattle.std.specs.Prelude.{Some, None}
use Rattle.std.proofs.lemmas.Bool.{cases_lt}
use Rattle.region_memory.specs.Regions.{Regions, IsWithinLimits}
use Rattle.region_memory.proofs.Spots.{spot_misaligned, code_place, table_place, arguments_place, stack_place, heap_place, none_elsewhere}
use Rattle.region_memory.proofs.region.Region.place.Goals as goal

pub returns-then-address-ne0-clause-spot : goal.returns-then-address-ne0-clause-spot
returns-then-address-ne0-clause-spot c = sym (spot_misaligned c.args.self.now c.args.address c.if-address-ne0.true)

pub returns-in_err-word_in-clause-spot : goal.returns-in_err-word_in-clause-spot
returns-in_err-word_in-clause-spot c =
    let len : c.len.result ≡ length c.self.inside.stack.items = search (rules, c.len.ensures) in
    rw c.from_residual.ensures (stack_place c.args.self.now c.args.address c.len.result c.word_in.result None (subst IsWithinLimits c.self.view_is c.self.invariant) c.if-address-ne0.false c.if-high-eq-STACK_HIGH.true (len ∙ ap (λ (r : Regions). length r.stack) c.self.view_is) c.word_in.ensures.value c.in_err-word_in.was)

pub returns-in_ok-word_in-clause-spot : goal.returns-in_ok-word_in-clause-spot
returns-in_ok-word_in-clause-spot c =
    let len : c.len.result ≡ length c.self.inside.stack.items = search (rules, c.len.ensures) in
    (stack_place c.args.self.now c.args.address c.len.result c.word_in.result (Some c.in_ok-word_in.field-0) (subst IsWithinLimits c.self.view_is c.self.invariant) c.if-address-ne0.false c.if-high-eq-STACK_HIGH.true (len ∙ ap (λ (r : Regions). length r.stack) c.self.view_is) c.word_in.ensures.value c.in_ok-word_in.was)

pub returns-in_err-word_in_heap-clause-spot : goal.returns-in_err-word_in_heap-clause-spot
returns-in_err-word_in_heap-clause-spot c =
    let len : c.len-then-high-eq-HEAP_HIGH.result ≡ length c.self.inside.heap.items = search (rules, c.len-then-high-eq-HEAP_HIGH.ensures) in
    rw c.from_residual-in_err-word_in_heap.ensures (heap_place c.args.self.now c.args.address c.len-then-high-eq-HEAP_HIGH.result c.word_in_heap.result None (subst IsWithinLimits c.self.view_is c.self.invariant) c.if-address-ne0.false c.if-high-eq-HEAP_HIGH.true (len ∙ ap (λ (r : Regions). length r.heap) c.self.view_is) c.word_in_heap.ensures.value c.in_err-word_in_heap.was)

pub returns-in_ok-word_in_heap-clause-spot : goal.returns-in_ok-word_in_heap-clause-spot
returns-in_ok-word_in_heap-clause-spot c =
    let len : c.len-then-high-eq-HEAP_HIGH.result ≡ length c.self.inside.heap.items = search (rules, c.len-then-high-eq-HEAP_HIGH.ensures) in
    (heap_place c.args.self.now c.args.address c.len-then-high-eq-HEAP_HIGH.result c.word_in_heap.result (Some c.in_ok-word_in_heap.field-0) (subst IsWithinLimits c.self.view_is c.self.invariant) c.if-address-ne0.false c.if-high-eq-HEAP_HIGH.true (len ∙ ap (λ (r : Regions). length r.heap) c.self.view_is) c.word_in_heap.ensures.value c.in_ok-word_in_heap.was)

pub returns-in_err-word_in-2-clause-spot : goal.returns-in_err-word_in-2-clause-spot
returns-in_err-word_in-2-clause-spot c =
    let len : c.len-then-high-eq-ARGUMENTS_HIGH.result ≡ length c.self.inside.arguments.items = search (rules, c.len-then-high-eq-ARGUMENTS_HIGH.ensures) in
    rw c.from_residual-in_err-word_in-2.ensures (arguments_place c.args.self.now c.args.address c.len-then-high-eq-ARGUMENTS_HIGH.result c.word_in-then-high-eq-ARGUMENTS_HIGH.result None (subst IsWithinLimits c.self.view_is c.self.invariant) c.if-address-ne0.false c.if-high-eq-ARGUMENTS_HIGH.true (len ∙ ap (λ (r : Regions). length r.arguments) c.self.view_is) c.word_in-then-high-eq-ARGUMENTS_HIGH.ensures.value c.in_err-word_in-2.was)

pub returns-in_ok-word_in-2-clause-spot : goal.returns-in_ok-word_in-2-clause-spot
returns-in_ok-word_in-2-clause-spot c =
    let len : c.len-then-high-eq-ARGUMENTS_HIGH.result ≡ length c.self.inside.arguments.items = search (rules, c.len-then-high-eq-ARGUMENTS_HIGH.ensures) in
    (arguments_place c.args.self.now c.args.address c.len-then-high-eq-ARGUMENTS_HIGH.result c.word_in-then-high-eq-ARGUMENTS_HIGH.result (Some c.in_ok-word_in-2.field-0) (subst IsWithinLimits c.self.view_is c.self.invariant) c.if-address-ne0.false c.if-high-eq-ARGUMENTS_HIGH.true (len ∙ ap (λ (r : Regions). length r.arguments) c.self.view_is) c.word_in-then-high-eq-ARGUMENTS_HIGH.ensures.value c.in_ok-word_in-2.was)

pub returns-in_err-word_in-3-clause-spot : goal.returns-in_err-word_in-3-clause-spot
returns-in_err-word_in-3-clause-spot c =
    let len : c.len-then-high-eq-TABLE_HIGH.result ≡ length c.self.inside.table.items = search (rules, c.len-then-high-eq-TABLE_HIGH.ensures) in
    rw c.from_residual-in_err-word_in-3.ensures (table_place c.args.self.now c.args.address c.len-then-high-eq-TABLE_HIGH.result c.word_in-then-high-eq-TABLE_HIGH.result None (subst IsWithinLimits c.self.view_is c.self.invariant) c.if-address-ne0.false c.if-high-eq-TABLE_HIGH.true (len ∙ ap (λ (r : Regions). length r.table) c.self.view_is) c.word_in-then-high-eq-TABLE_HIGH.ensures.value c.in_err-word_in-3.was)

pub returns-in_ok-word_in-3-clause-spot : goal.returns-in_ok-word_in-3-clause-spot
returns-in_ok-word_in-3-clause-spot c =
    let len : c.len-then-high-eq-TABLE_HIGH.result ≡ length c.self.inside.table.items = search (rules, c.len-then-high-eq-TABLE_HIGH.ensures) in
    (table_place c.args.self.now c.args.address c.len-then-high-eq-TABLE_HIGH.result c.word_in-then-high-eq-TABLE_HIGH.result (Some c.in_ok-word_in-3.field-0) (subst IsWithinLimits c.self.view_is c.self.invariant) c.if-address-ne0.false c.if-high-eq-TABLE_HIGH.true (len ∙ ap (λ (r : Regions). length r.table) c.self.view_is) c.word_in-then-high-eq-TABLE_HIGH.ensures.value c.in_ok-word_in-3.was)

pub returns-in_err-byte_in_code-clause-spot : goal.returns-in_err-byte_in_code-clause-spot
returns-in_err-byte_in_code-clause-spot c =
    let len : c.len-then-high-eq-CODE_HIGH.result ≡ length c.self.inside.code.items = search (rules, c.len-then-high-eq-CODE_HIGH.ensures) in
    rw c.from_residual-in_err-byte_in_code.ensures (code_place c.args.self.now c.args.address c.len-then-high-eq-CODE_HIGH.result c.byte_in_code.result None (subst IsWithinLimits c.self.view_is c.self.invariant) c.if-address-ne0.false c.if-high-eq-CODE_HIGH.true (len ∙ ap (λ (r : Regions). length r.code) c.self.view_is) c.byte_in_code.ensures.value c.in_err-byte_in_code.was)

pub returns-in_ok-byte_in_code-clause-spot : goal.returns-in_ok-byte_in_code-clause-spot
returns-in_ok-byte_in_code-clause-spot c =
    let len : c.len-then-high-eq-CODE_HIGH.result ≡ length c.self.inside.code.items = search (rules, c.len-then-high-eq-CODE_HIGH.ensures) in
    (code_place c.args.self.now c.args.address c.len-then-high-eq-CODE_HIGH.result c.byte_in_code.result (Some c.in_ok-byte_in_code.field-0) (subst IsWithinLimits c.self.view_is c.self.invariant) c.if-address-ne0.false c.if-high-eq-CODE_HIGH.true (len ∙ ap (λ (r : Regions). length r.code) c.self.view_is) c.byte_in_code.ensures.value c.in_ok-byte_in_code.was)

outside : (address : ℕ) → (address / 4294967296 ≡ 4 → ⊥) → (address / 4294967296 ≡ 5 → ⊥) → (address / 4294967296 ≡ 3 → ⊥) → (address / 4294967296 ≡ 2 → ⊥) → (address / 4294967296 ≡ 1 → ⊥) → address < 4294967296 ⊎ 25769803776 ≤ address
outside address n4 n5 n3 n2 n1 =
    elim (cases_lt address 4294967296) [
      | inl lt ↦ inl lt
      | inr ge ↦ inr (omega arith)
    ]

pub returns-else-high-eq-CODE_HIGH-clause-spot : goal.returns-else-high-eq-CODE_HIGH-clause-spot
returns-else-high-eq-CODE_HIGH-clause-spot c =
    sym (none_elsewhere c.args.self.now c.args.address (subst IsWithinLimits c.self.view_is c.self.invariant) c.if-address-ne0.false (outside c.args.address c.if-high-eq-STACK_HIGH.false c.if-high-eq-HEAP_HIGH.false c.if-high-eq-ARGUMENTS_HIGH.false c.if-high-eq-TABLE_HIGH.false c.if-high-eq-CODE_HIGH.false))

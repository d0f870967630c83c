-- The words with which a run begins stand for the constants of its call.
use Rattle.std.proofs.Common.{◌≡◌, ℕ, ◌-◌, ◌*◌, ◌≤◌, Bool, true, false, List, [], refl, sym, ap, subst, arith, length, get_or, map, sum}
use Rattle.std.specs.Prelude.{Option, Some, None, nat_le, if◌then◌else◌}
use Rattle.std.proofs.lemmas.Bool.Decides.{nat_tests}
use Rattle.hipe_terms.specs.declared.constant.Constant.{Constant}
use Rattle.hipe_terms.specs.Terms.{Term, term_of}
use Rattle.hipe_terms.specs.Words.{words_of}
use Rattle.region_memory.specs.declared.layout.TheConstants.{HEAP_END}
use Rattle.region_memory.specs.Regions.{Regions, heap_begin}
use Rattle.heap_terms.specs.Shapes.{Symbols, heap_begin as heap_begin_of}
use Rattle.heap_terms.specs.Building.{all_built, built}
use Rattle.heap_terms.specs.Standing.{StandsIn}
use Rattle.heap_terms.specs.Terms.{term_at}
use Rattle.heap_terms_laws.specs.Constants.{EachStands, AreBuilt}
use Rattle.heap_terms_laws.proofs.Built.{all_built_stand}
use Rattle.heap_terms_laws.proofs.Growing.{prefixes_have_terms}
use Rattle.image_link.specs.declared.image.Function.{Function}
use Rattle.image_load.specs.Loading.{HeapFull, beginning_with, with_code, symbols_for, ready, not_ready, begun, exported, loaded}
use Rattle.image_load_laws.specs.Arguments.{ArgumentsStand, ConstantsStand}
use Rattle.image_load_laws.proofs.Atoms.{atoms_there}
use Rattle.image_load_laws.proofs.Sizes.{all_length}
use Rattle.image_load_laws.proofs.Words.{heap_prefix, heap_size, word_is, each_at}

within : (a b : ℕ) → nat_le a b ≡ true → a ≤ b
within a b e = grind (arith, nat_tests)

-- words that stand for terms in what was built stand for them in the heap
in_heap : (symbols : Symbols) (regions : Regions) (words : List ℕ) (t : Term) (w : ℕ) → length words ≤ length regions.heap → StandsIn symbols (heap_begin regions) words (length words) t w
    → term_at symbols (beginning_with words regions.heap) w ≡ Some t
in_heap symbols regions words t w fits stands =
    let heap : List ℕ = beginning_with words regions.heap in
    let size : length heap ≡ length regions.heap = heap_size words regions.heap fits in
    let begin : heap_begin regions ≡ heap_begin_of heap = ap (λ n. HEAP_END - 8 * n) (sym size) in
    prefixes_have_terms symbols heap (length words) t w (omega arith)
    (subst (λ ws. StandsIn symbols (heap_begin_of heap) ws (length words) t w) (sym (heap_prefix words regions.heap))
    (subst (λ b. StandsIn symbols b words (length words) t w) begin stands))

ready_stands : (symbols : Symbols) (regions : Regions) (f : Function) (ts : List Term) (built : List ℕ × List ℕ) → length built.1 ≤ length regions.heap
    → EachStands symbols (heap_begin regions) built.1 (length built.1) ts built.0 → ArgumentsStand ts (ready symbols regions f built) (ready symbols regions f built).beginning
ready_stands symbols regions f ts built fits each i t e =
    let here = each_at symbols (heap_begin regions) built.1 (length built.1) ts built.0 i t each e in
    subst (λ w. term_at symbols (beginning_with built.1 regions.heap) w ≡ Some t) (sym (word_is built.0 regions.arguments i here.0))
    (in_heap symbols regions built.1 t (get_or built.0 i 0) fits here.1)

chosen_stands : (symbols : Symbols) (regions : Regions) (f : Function) (ts : List Term) (built : List ℕ × List ℕ) (b : Bool) → (b ≡ true → length built.1 ≤ length regions.heap)
    → EachStands symbols (heap_begin regions) built.1 (length built.1) ts built.0
    → ArgumentsStand ts (if b then ready symbols regions f built else not_ready symbols regions HeapFull) (if b then ready symbols regions f built else not_ready symbols regions HeapFull).beginning
chosen_stands symbols regions f ts built true fits each = ready_stands symbols regions f ts built (fits refl) each
chosen_stands symbols regions f ts built false fits each = tt

begun_stands : (symbols : Symbols) (regions : Regions) (args : List Constant) (o : Option Function) → AreBuilt symbols (heap_begin regions) [] (map term_of args) (all_built (map built args) (heap_begin regions) symbols.atoms [])
    → ArgumentsStand (map term_of args) (begun symbols regions args o) (begun symbols regions args o).beginning
begun_stands symbols regions args None stand = tt
begun_stands symbols regions args (Some f) stand =
    chosen_stands symbols regions f (map term_of args) (all_built (map built args) (heap_begin regions) symbols.atoms []) (nat_le (sum (map words_of args)) (length regions.heap))
    (λ e. let fits : sum (map words_of args) ≤ length regions.heap = within _ _ e in omega (arith, all_length args (heap_begin regions) symbols.atoms [])) stand.stand

pub constants_stand : ConstantsStand
unfolding loaded
constants_stand image call regions good =
    let symbols : Symbols = symbols_for image call.args in
    begun_stands symbols (with_code image regions) call.args (exported image call.name (length call.args) image.exports)
    (all_built_stand symbols (heap_begin regions) call.args [] good (atoms_there call.args image.atoms))

-- The fields and the other bytes of linked code.
use Rattle.std.proofs.Common.{◌≡◌, ◌∙◌, ◌+◌, ◌-◌, ◌^◌, ◌<◌, ◌≤◌, ◌⊎◌, inl, inr, ℕ, ℤ, zero, suc, pos, List, [], ◌∷◌, All, refl, sym, ap, subst, arith, zero-add, length, get_or, take, drop}
use Rattle.std.specs.Prelude.{AllPairs, fold, sum_by, ◌+ℤ◌, ◌-ℤ◌, negsuc, FitsSigned}
use Rattle.std.specs.Int.{w32}
use Rattle.std.proofs.lemmas.Int.{ints}
use Rattle.std.proofs.Math.IntN.{+ℤ_comm, -ℤ-+ℤ_cancel}
use Rattle.std.proofs.lemmas.List.Sums.{sum_by-cons}
use Rattle.std.proofs.lemmas.Grind.{same_number_lists}
use Rattle.std.proofs.lemmas.List.{get_or_append_left, get_or-take, get_or-drop, length-take-le, length-drop}
use Rattle.std.proofs.lemmas.List.Elements.{All-head, All-tail}
use Rattle.std.proofs.lemmas.Option.{get_or_from_slice_get, slice_get_within}
use Rattle.amd64_form.specs.Encoding.{constant_32}
use Rattle.image_link.specs.declared.code.Code.{Code}
use Rattle.image_link.specs.declared.code.CallSite.{CallSite}
use Rattle.hipe_base.specs.declared.limits.TheConstants.{CODE_LIMIT}
use Rattle.image_link.specs.Code.{FIELD, IsCallIn, AreApart, IsPart, exit_bytes}
use Rattle.image_link.specs.Linking.{code_from, code_size, displacement, filled, linked, linked_part, size, start_of, starts_of}
use Rattle.image_link.specs.Names.{ProgramNames}
use Rattle.image_link.proofs.Parts.{start_at, start_next, displacement_length, filled_length, part_length, code_step, linked_length, part_within, start_within}
use Rattle.image_link.specs.Fields.{field_at, LeadsTo, CallsLead, IsOutside, OthersStay}
use Rattle.image_link.proofs.Replacing.{byte, behind, in_new, in_old}

-- a displacement between offsets of 31 bits
small : (from to : ℕ) → from < 2 ^ 31 → to < 2 ^ 31 → (d : ℤ) → pos from +ℤ d ≡ pos to → FitsSigned w32 d
small from to one two (pos n) is = record { sfits = omega (arith, ints, is, two) }
small from to one two (negsuc n) is = record { sfits = omega (arith, ints, is, one) }

leads_there : (from to : ℤ) → from +ℤ (to -ℤ from) ≡ to
leads_there from to = +ℤ_comm from (to -ℤ from) ∙ -ℤ-+ℤ_cancel to from

-- ---- one part

module _ (starts : List ℕ) (start functions : ℕ) where
  -- what a call's field is filled with
  abbrev new : CallSite → List ℕ
  new call = displacement (start + call.at + FIELD) (get_or starts call.target 0)

  four : (call : CallSite) → length (new call) ≡ FIELD
  four call = displacement_length (start + call.at + FIELD) (get_or starts call.target 0)

  abbrev AreIn : List ℕ → List CallSite → Type 0
  AreIn bytes calls = All (IsCallIn (length bytes) functions) calls

  still_in : (bytes : List ℕ) (call : CallSite) (calls : List CallSite) → AreIn bytes (call ∷ calls) → AreIn (filled starts start bytes call) calls
  still_in bytes call calls are =
      let same : length (filled starts start bytes call) ≡ length bytes = filled_length starts start bytes call (All-head (IsCallIn (length bytes) functions) call calls are).0 in
      subst (λ n. All (IsCallIn n functions) calls) (sym same) (All-tail (IsCallIn (length bytes) functions) call calls are)

  fits : (bytes : List ℕ) (call : CallSite) (calls : List CallSite) → AreIn bytes (call ∷ calls) → call.at + length (new call) ≤ length bytes
  fits bytes call calls are = let i = (All-head (IsCallIn (length bytes) functions) call calls are).0 in omega (arith, i, four call)

  -- a byte that is in no field stays
  stays : (bytes : List ℕ) (calls : List CallSite) (i : ℕ) → AreIn bytes calls → All (λ call. (i < call.at) ⊎ (call.at + FIELD ≤ i)) calls
      → byte (fold (filled starts start) bytes calls) i ≡ byte bytes i
  stays bytes [] i are outside = refl
  stays bytes (call ∷ calls) i are outside =
      stays (filled starts start bytes call) calls i (still_in bytes call calls are) (All-tail (λ c. (i < c.at) ⊎ (c.at + FIELD ≤ i)) call calls outside)
      ∙ in_old bytes call.at (new call) i (fits bytes call calls are) (out (All-head (λ c. (i < c.at) ⊎ (c.at + FIELD ≤ i)) call calls outside))
    where
      out : (i < call.at) ⊎ (call.at + FIELD ≤ i) → (i < call.at) ⊎ (call.at + length (new call) ≤ i)
      out (inl before) = inl before
      out (inr past) = inr (omega (arith, past, four call))

  first_apart : (call : CallSite) (calls : List CallSite) → AllPairs AreApart (call ∷ calls) → (j : ℕ) → j < FIELD
      → All (λ c. (call.at + j < c.at) ⊎ (c.at + FIELD ≤ call.at + j)) calls
  first_apart call calls apart j below k d within = go (apart 0 (suc k) d (omega arith) (omega (arith, within))) where
    go : AreApart call (get_or calls k d) → (call.at + j < (get_or calls k d).at) ⊎ ((get_or calls k d).at + FIELD ≤ call.at + j)
    go (inl before) = inl (omega (arith, before, below))
    go (inr past) = inr (omega (arith, past))

  rest_apart : (call : CallSite) (calls : List CallSite) → AllPairs AreApart (call ∷ calls) → AllPairs AreApart calls
  rest_apart call calls apart i j d below within = apart (suc i) (suc j) d (omega (arith, below)) (omega (arith, within))

  -- a byte of a call's field is filled
  is_filled : (bytes : List ℕ) (calls : List CallSite) (n : ℕ) (d : CallSite) (j : ℕ) → AreIn bytes calls → AllPairs AreApart calls → n < length calls → j < FIELD
      → byte (fold (filled starts start) bytes calls) ((get_or calls n d).at + j) ≡ byte (new (get_or calls n d)) j
  is_filled bytes [] n d j are apart within below = absurd (omega (arith, within))
  is_filled bytes (call ∷ calls) zero d j are apart within below =
      stays (filled starts start bytes call) calls (call.at + j) (still_in bytes call calls are) (first_apart call calls apart j below)
      ∙ in_new bytes call.at (new call) j (call.at + j) (fits bytes call calls are) (omega (arith, below, four call)) refl
  is_filled bytes (call ∷ calls) (suc n) d j are apart within below =
      is_filled (filled starts start bytes call) calls n d j (still_in bytes call calls are) (rest_apart call calls apart) (omega (arith, within)) below

-- ---- the parts in the code

sums_ascend : (xs : List Code) (a b : ℕ) → a ≤ b → sum_by size (take a xs) ≤ sum_by size (take b xs)
sums_ascend [] zero b l = omega arith
sums_ascend [] (suc a) zero l = omega arith
sums_ascend [] (suc a) (suc b) l = omega arith
sums_ascend (x ∷ xs) zero b l = omega arith
sums_ascend (x ∷ xs) (suc a) zero l = absurd (omega (arith, l))
sums_ascend (x ∷ xs) (suc a) (suc b) l = omega (arith, sum_by-cons size x (take a xs), sum_by-cons size x (take b xs), sums_ascend xs a b (omega (arith, l)))

starts_ascend : (parts : List Code) (a b : ℕ) → a ≤ b → start_of parts a ≤ start_of parts b
starts_ascend parts a b l = omega (arith, sums_ascend parts a b l)

module _ (parts : List Code) (are : All (IsPart (length parts)) parts) where
  abbrev part_bytes : ℕ → Code → List ℕ
  part_bytes k d = linked_part (starts_of parts) (start_of parts k) (get_or parts k d)

  part_size : (k : ℕ) (d : Code) → k < length parts → length (part_bytes k d) ≡ size (get_or parts k d)
  part_size k d within = part_length (starts_of parts) (start_of parts k) (length parts) (get_or parts k d) (are k d within)

  -- from function m on, with n more parts before that of function m + n
  from : (n m : ℕ) (d : Code) (i : ℕ) → m + n < length parts → i < size (get_or parts (m + n) d)
      → byte (code_from parts m (drop m parts)) (start_of parts (m + n) - start_of parts m + i) ≡ byte (part_bytes (m + n) d) i
  from zero m d i within inside =
      let same : m + 0 ≡ m = omega arith in
      let here : m < length parts = omega (arith, within) in
      let none : start_of parts (m + 0) - start_of parts m + i ≡ i = ap (λ x. start_of parts x - start_of parts m + i) same ∙ omega arith in
      let bound : i < length (part_bytes m d) = omega (arith, part_size m d here, subst (λ x. i < size (get_or parts x d)) same inside) in
      ap (λ x. byte (code_from parts m (drop m parts)) x) none
      ∙ ap (λ b. byte b i) (code_step parts m d here)
      ∙ get_or_append_left (part_bytes m d) (code_from parts (m + 1) (drop (m + 1) parts)) 0 i bound
      ∙ ap (λ x. byte (part_bytes x d) i) (sym same)
  from (suc n) m d i within inside =
      let same : m + suc n ≡ (m + 1) + n = omega arith in
      let here : m < length parts = omega (arith, within) in
      let next = start_next parts m d here in
      let size_is = part_size m d here in
      let later : start_of parts (m + 1) ≤ start_of parts ((m + 1) + n) = starts_ascend parts (m + 1) ((m + 1) + n) (omega arith) in
      let at : ℕ = start_of parts ((m + 1) + n) - start_of parts (m + 1) + i in
      let moved : start_of parts (m + suc n) - start_of parts m + i ≡ length (part_bytes m d) + at =
      ap (λ x. start_of parts x - start_of parts m + i) same ∙ omega (arith, next, size_is, later) in
      ap (λ b. byte b (start_of parts (m + suc n) - start_of parts m + i)) (code_step parts m d here)
      ∙ behind (part_bytes m d) (code_from parts (m + 1) (drop (m + 1) parts)) at (start_of parts (m + suc n) - start_of parts m + i) moved
      ∙ from n (m + 1) d i (omega (arith, within)) (subst (λ x. i < size (get_or parts x d)) same inside)
      ∙ ap (λ x. byte (part_bytes x d) i) (sym same)

  -- a byte of a part in the linked code
  part_at : (names : ProgramNames) (k : ℕ) (d : Code) (i : ℕ) → k < length parts → i < size (get_or parts k d)
      → byte (linked parts names).code (start_of parts k + i) ≡ byte (part_bytes k d) i
  part_at names k d i within inside =
      let first : start_of parts 0 ≡ length exit_bytes = omega arith in
      let later : start_of parts 0 ≤ start_of parts k = starts_ascend parts 0 k (omega arith) in
      behind exit_bytes (code_from parts 0 parts) (start_of parts k - start_of parts 0 + i) (start_of parts k + i) (omega (arith, first, later))
      ∙ subst (λ x. x < length parts → i < size (get_or parts x d) → byte (code_from parts 0 (drop 0 parts)) (start_of parts x - start_of parts 0 + i) ≡ byte (part_bytes x d) i) (zero-add k)
      (from k 0 d i) within inside

  displaced : (at target j : ℕ) → get_or (starts_of parts) target 0 ≡ start_of parts target
      → byte (displacement (at + FIELD) (get_or (starts_of parts) target 0)) j ≡ byte (constant_32 (pos (start_of parts target) -ℤ pos (at + FIELD))) j
  unfolding displacement
  displaced at target j is = ap (λ t. byte (constant_32 (pos t -ℤ pos (at + FIELD))) j) is

  -- ---- the laws

  outside_is : (names : ProgramNames) (k i : ℕ) (d : Code) → k < length parts → i < size (get_or parts k d) → IsOutside (get_or parts k d) i
      → byte (linked parts names).code (start_of parts k + i) ≡ byte (get_or parts k d).bytes i
  outside_is names k i d within inside outside =
      part_at names k d i within inside
      ∙ stays (starts_of parts) (start_of parts k) (length parts) (get_or parts k d).bytes (get_or parts k d).calls i (are k d within).calls outside

  field_is : (names : ProgramNames) (k : ℕ) (d : Code) (n : ℕ) (c : CallSite) (j : ℕ) → k < length parts → n < length (get_or parts k d).calls → j < FIELD
      → byte (linked parts names).code (start_of parts k + ((get_or (get_or parts k d).calls n c).at + j))
      ≡ byte (new (starts_of parts) (start_of parts k) (length parts) (get_or (get_or parts k d).calls n c)) j
  field_is names k d n c j within number below =
      let is = are k d within in
      let in_part = (is.calls n c number).0 in
      part_at names k d ((get_or (get_or parts k d).calls n c).at + j) within (omega (arith, in_part, below))
      ∙ is_filled (starts_of parts) (start_of parts k) (length parts) (get_or parts k d).bytes (get_or parts k d).calls n c j is.calls is.apart number below

  leads : (names : ProgramNames) (k : ℕ) (d : Code) (n : ℕ) (c : CallSite) → code_size parts ≤ CODE_LIMIT → k < length parts → n < length (get_or parts k d).calls
      → LeadsTo (linked parts names).code (start_of parts k + (get_or (get_or parts k d).calls n c).at) (start_of parts (get_or (get_or parts k d).calls n c).target)
  leads names k d n c limit within number =
      (offset, small (at + FIELD) target_start next_small target_small offset there, same_number_lists (field_at code at) (constant_32 offset) sizes bytes, there)
    where
      call : CallSite
      call = get_or (get_or parts k d).calls n c

      code : List ℕ
      code = (linked parts names).code

      at : ℕ
      at = start_of parts k + call.at

      target_start : ℕ
      target_start = start_of parts call.target

      offset : ℤ
      offset = pos target_start -ℤ pos (at + FIELD)

      there : pos (at + FIELD) +ℤ offset ≡ pos target_start
      there = leads_there (pos (at + FIELD)) (pos target_start)

      next_small : at + FIELD < 2 ^ 31
      next_small = let in_part = ((are k d within).calls n c number).0 in let room = part_within parts k d within in omega (arith, in_part, room, limit)

      target_small : target_start < 2 ^ 31
      target_small = let room = start_within parts call.target in omega (arith, room, limit)

      held : length (constant_32 offset) ≡ FIELD
      held = refl

      sizes : length (field_at code at) ≡ length (constant_32 offset)
      sizes =
          let in_part = ((are k d within).calls n c number).0 in
          let whole = linked_length parts (length parts) are in
          let room = part_within parts k d within in
          length-take-le FIELD (drop at code) (omega (arith, length-drop at code, in_part, whole, room)) ∙ sym held

      bytes : (j : ℕ) → j < length (field_at code at) → byte (field_at code at) j ≡ byte (constant_32 offset) j
      bytes j below =
          let four : j < FIELD = omega (arith, below, sizes, held) in
          let joined : at + j ≡ start_of parts k + (call.at + j) = omega arith in
          get_or-take FIELD (drop at code) j 0 four
          ∙ get_or-drop at code j 0
          ∙ ap (λ x. byte code x) joined
          ∙ field_is names k d n c j within number four
          ∙ displaced at call.target j (start_at parts call.target 0 ((are k d within).calls n c number).1)

pub calls_lead : CallsLead
calls_lead parts names are limit k part call is (n, number, at) =
    let same : get_or parts k part ≡ part = get_or_from_slice_get parts k part part is in
    let within : k < length parts = slice_get_within parts k part is in
    let led = leads parts are names k part n call limit within (subst (λ (p : Code). n < length p.calls) (sym same) number) in
    let is_call : get_or (get_or parts k part).calls n call ≡ call = ap (λ (p : Code). get_or p.calls n call) same ∙ at in
    subst (λ (c : CallSite). LeadsTo (linked parts names).code (start_of parts k + c.at) (start_of parts c.target)) is_call led

pub others_stay : OthersStay
others_stay parts names are k i part is inside outside =
    let same : get_or parts k part ≡ part = get_or_from_slice_get parts k part part is in
    let within : k < length parts = slice_get_within parts k part is in
    outside_is parts are names k i part within (subst (λ (p : Code). i < size p) (sym same) inside) (subst (λ (p : Code). IsOutside p i) (sym same) outside)
    ∙ ap (λ (p : Code). byte p.bytes i) same

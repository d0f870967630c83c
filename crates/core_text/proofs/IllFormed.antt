-- The first byte of a text that isn't UTF-8.
use Rattle.std.proofs.Common.{◌≡◌, ℕ, zero, suc, ◌-◌, ◌<◌, Bool, true, false, ◌&&◌, List, [], ◌∷◌, ◌++◌, length, drop, Option, Some, None, refl, ap, sym, ◌∙◌, subst, append_assoc, arith}
use Rattle.std.specs.Prelude.{slice_index, encode_utf8_all}
use Rattle.std.specs.Char.{encode_utf8}
use Rattle.std.specs.Str.{IsUtf8, all_scalars}
use Rattle.std.proofs.lemmas.Bool.Decides.{nat_tests}
use Rattle.std.proofs.lemmas.List.{append-nil, drop_at}
use Rattle.hipe_terms.specs.declared.place.Place.{Place}
use Rattle.core_text.specs.Bytes.{is_continuation}
use Rattle.core_text.specs.Places.{start, moved, place_after}
use Rattle.core_text.specs.Walks.{walk, go_on}
use Rattle.core_text.specs.Utf8.{character_length, character_step_by, character_step, no_place, ill_formed_from, ill_formed}
use Rattle.core_text.specs.declared.code_point.CodePoint.{CodePoint}
use Rattle.core_text.specs.CodePoints.{point, decoded}
use Rattle.core_text.specs.Prefixes.{AreAll, BeginsWith, BeginsWithNone}
use Rattle.core_text.specs.Characters.{IsCharacter, IsIllFormed}
use Rattle.core_text.proofs.Walks.{walk_prefix}
use Rattle.core_text.proofs.Encodings.{decoded_there, decodes, continues_all}

-- a character is taken whole
size_of : Option CodePoint → Option ℕ
size_of None = None
size_of (Some p) = Some p.length

same_size : (v m : ℕ) (n : Option ℕ) (c : ℕ) (t : List ℕ) → decoded n c t ≡ point v m → n ≡ Some m
unfolding size_of
same_size v m None c t h = absurd (cc)
same_size v m (Some n) c t h = ap size_of h

pub taken : (v : ℕ) (cs us : List ℕ) → IsCharacter v cs → character_length (cs ++ us) ≡ Some (length cs)
taken v [] us is = let h : None ≡ point v 0 = decodes v [] us is in absurd (cc)
taken v (c ∷ cs) us is = same_size v (length (c ∷ cs)) (character_length (c ∷ cs ++ us)) c (cs ++ us) (decodes v (c ∷ cs) us is)

character_some : (v : ℕ) (cs : List ℕ) → IsCharacter v cs → 0 < length cs
character_some v [] is = let h : None ≡ point v 0 = decodes v [] [] is in absurd (cc)
character_some v (c ∷ cs) is = omega arith

-- and is one column, or ends a line
stay : (c : ℕ) (p : Place) → is_continuation c ≡ true → moved p c ≡ p
stay c p is = grind (arith, nat_tests)

pub stays : (cs : List ℕ) (p : Place) → AreAll is_continuation cs → place_after p cs ≡ p
stays [] p all = refl
stays (c ∷ cs) p all = ap (λ q. place_after q cs) (stay c p all.0) ∙ stays cs p all.1

pub moved_over : (v : ℕ) (cs us : List ℕ) (p : Place) → IsCharacter v cs → moved p (slice_index (cs ++ us) 0) ≡ place_after p cs
moved_over v [] us p is = let h : None ≡ point v 0 = decodes v [] us is in absurd (cc)
moved_over v (c ∷ cs) us p is = sym (stays cs (moved p c) (continues_all v c cs is))

pub places : (cs us : List ℕ) (p : Place) → place_after p (cs ++ us) ≡ place_after (place_after p cs) us
places [] us p = refl
places (c ∷ cs) us p = places cs us (moved p c)

-- what is found of a text that goes on at a place
pub record Stuck (s : List ℕ) (p at : Place) : Type 0 where
  pub good : List ℕ
  pub bad : List ℕ
  pub is : s ≡ good ++ bad
  pub utf8 : IsUtf8 good
  pub some : 0 < length bad
  pub no_character : (v : ℕ) → BeginsWithNone (λ cs us. IsCharacter v cs) bad
  pub place : at ≡ place_after p good

abbrev pub Gives : List ℕ → Place → Option Place → Type 0
Gives s p None = IsUtf8 s
Gives s p (Some at) = Stuck s p at

more_utf8 : (v : ℕ) (cs us : List ℕ) → IsCharacter v cs → IsUtf8 us → IsUtf8 (cs ++ us)
more_utf8 v cs us is u =
    (v ∷ u.0, (ap (λ b. b && all_scalars u.0) is.0 ∙ u.1.0, ap (λ t. t ++ encode_utf8_all u.0) is.1 ∙ ap (λ t. cs ++ t) u.1.1))

more : (s : List ℕ) (p : Place) (v n : ℕ) (r : Option Place) → (b : BeginsWith (λ cs us. IsCharacter v cs) s n) → Gives b.rest (place_after p b.prefix) r → Gives s p r
more s p v n None b g = subst IsUtf8 (sym b.is) (more_utf8 v b.prefix b.rest b.holds g)
more s p v n (Some at) b g = record {
  good = b.prefix ++ g.good;
  bad = g.bad;
  is = b.is ∙ ap (λ t. b.prefix ++ t) g.is ∙ sym (append_assoc b.prefix g.good g.bad);
  utf8 = more_utf8 v b.prefix g.good b.holds g.utf8;
  some = g.some;
  no_character = g.no_character;
  place = g.place ∙ sym (places b.prefix g.good p);
}

behind : (c : ℕ) (t : List ℕ) (n : ℕ) → 0 < n → drop (n - 1) t ≡ drop n (c ∷ t)
behind c t zero some = absurd (omega (arith, some))
behind c t (suc n) some = ap (λ k. drop k t) (omega arith)

none_there : (s : List ℕ) → character_length s ≡ None → (v : ℕ) → BeginsWithNone (λ cs us. IsCharacter v cs) s
none_there s none v cs us is h = let e = sym (taken v cs us h) ∙ ap character_length (sym is) ∙ none in absurd (cc)

nothing_good : IsUtf8 []
nothing_good = ([], (refl, refl))

step_gives : (c : ℕ) (t : List ℕ) (p : Place) (f : Option ℕ) → character_length (c ∷ t) ≡ f → ((n : ℕ) → Gives (drop (n - 1) t) (moved p c) (walk character_step no_place t (n - 1) (moved p c)))
    → Gives (c ∷ t) p (go_on (character_step_by f c p) (λ q. walk character_step no_place t (q.0 - 1) q.1))
step_gives c t p None is next = record {
  good = [];
  bad = c ∷ t;
  is = refl;
  utf8 = nothing_good;
  some = omega arith;
  no_character = none_there (c ∷ t) is;
  place = refl;
}
step_gives c t p (Some n) is next =
    let b = decoded_there c t n is in
    let rest : drop (n - 1) t ≡ b.rest = behind c t n (omega (arith, b.size, character_some _ b.prefix b.holds)) ∙ ap (drop n) b.is ∙ drop_at b.prefix b.rest n b.size in
    let place : moved p c ≡ place_after p b.prefix = ap (λ s. moved p (slice_index s 0)) b.is ∙ moved_over _ b.prefix b.rest p b.holds in
    let r = walk character_step no_place t (n - 1) (moved p c) in
    more (c ∷ t) p _ n r b (subst (λ q. Gives b.rest q r) place (subst (λ s. Gives s (moved p c) r) rest (next n)))

gives : (s : List ℕ) (k : ℕ) (p : Place) → Gives (drop k s) p (walk character_step no_place s k p)
gives [] zero p = nothing_good
gives [] (suc k) p = nothing_good
gives (c ∷ t) (suc k) p = gives t k p
gives (c ∷ t) zero p = step_gives c t p (character_length (c ∷ t)) refl (λ n. gives t (n - 1) (moved p c))

whole : (s : List ℕ) → Gives s start (ill_formed s)
unfolding ill_formed
whole s = gives s 0 start

pub well_formed_from : (s : List ℕ) (p : Place) → ill_formed_from p s ≡ None → IsUtf8 s
unfolding ill_formed_from
well_formed_from s p is = subst (Gives s p) is (gives s 0 p)

pub well_formed : (s : List ℕ) → ill_formed s ≡ None → IsUtf8 s
well_formed s is = subst (Gives s start) is (whole s)

pub ill_formed_at : (s : List ℕ) (at : Place) → ill_formed s ≡ Some at → IsIllFormed s at
ill_formed_at s at is =
    let g = subst (Gives s start) is (whole s) in
    record { good = g.good; bad = g.bad; is = g.is; utf8 = g.utf8; some = g.some; no_character = g.no_character; place = g.place }

-- and the other way round: characters are gone over
over : (v : ℕ) (cs us : List ℕ) (p : Place) → IsCharacter v cs → walk character_step no_place (cs ++ us) 0 p ≡ walk character_step no_place us 0 (place_after p cs)
over v cs us p is =
    walk_prefix character_step no_place cs us (length cs) p _ refl (character_some v cs is) (ap (λ n. character_step_by n (slice_index (cs ++ us) 0) p) (taken v cs us is))
    ∙ ap (λ q. walk character_step no_place us 0 q) (moved_over v cs us p is)

both : (a b : Bool) → (a && b) ≡ true → (a ≡ true) × (b ≡ true)
both true b h = (refl, h)
both false b h = absurd (cc)

overs : (vs us : List ℕ) (p : Place) → all_scalars vs ≡ true → walk character_step no_place (encode_utf8_all vs ++ us) 0 p ≡ walk character_step no_place us 0 (place_after p (encode_utf8_all vs))
overs [] us p good = refl
overs (v ∷ vs) us p good =
    let h = both _ _ good in
    let cs = encode_utf8 v in
    let ds = encode_utf8_all vs in
    ap (λ t. walk character_step no_place t 0 p) (append_assoc cs ds us) ∙ over v cs (ds ++ us) p (h.0, refl) ∙ overs vs us (place_after p cs) h.1
    ∙ ap (λ q. walk character_step no_place us 0 q) (sym (places cs ds p))

-- UTF-8 at the beginning is gone over
pub utf8_passed : (cs us : List ℕ) (p : Place) → IsUtf8 cs → ill_formed_from p (cs ++ us) ≡ ill_formed_from (place_after p cs) us
unfolding ill_formed_from
utf8_passed cs us p u = subst (λ s. walk character_step no_place (s ++ us) 0 p ≡ walk character_step no_place us 0 (place_after p s)) u.1.1 (overs u.0 us p u.1.0)

pub from_start : (s : List ℕ) → ill_formed_from start s ≡ ill_formed s
unfolding ill_formed_from ill_formed
from_start s = refl

pub nothing_ill_formed : (p : Place) → ill_formed_from p [] ≡ None
unfolding ill_formed_from
nothing_ill_formed p = refl

pub utf8_read : (s : List ℕ) → IsUtf8 s → ill_formed s ≡ None
utf8_read s u = sym (from_start s) ∙ ap (ill_formed_from start) (sym (append-nil s)) ∙ utf8_passed s [] start u ∙ nothing_ill_formed (place_after start s)

-- where no character begins, none is taken
not_taken : (s : List ℕ) (n : Option ℕ) → character_length s ≡ n → 0 < length s → ((v : ℕ) → BeginsWithNone (λ cs us. IsCharacter v cs) s) → n ≡ None
not_taken [] n is some h = absurd (omega (arith, some))
not_taken s None is some h = refl
not_taken (c ∷ t) (Some n) is some h = let b = decoded_there c t n is in absurd (h _ b.prefix b.rest b.is b.holds)

stuck_by : (s : List ℕ) (p : Place) → 0 < length s → character_length s ≡ None → ill_formed_from p s ≡ Some p
unfolding ill_formed_from
stuck_by [] p some is = absurd (omega (arith, some))
stuck_by (c ∷ t) p some is = ap (λ f. go_on (character_step_by f c p) (λ q. walk character_step no_place t (q.0 - 1) q.1)) is

pub ill_formed_read : (s : List ℕ) (at : Place) → IsIllFormed s at → ill_formed s ≡ Some at
ill_formed_read s at h =
    sym (from_start s) ∙ ap (ill_formed_from start) h.is ∙ utf8_passed h.good h.bad start h.utf8
    ∙ stuck_by h.bad (place_after start h.good) h.some (not_taken h.bad (character_length h.bad) refl h.some h.no_character) ∙ ap Some (sym h.place)

-- and where characters were gone over and none follows, the first byte that isn't UTF-8 stands there
pub stuck_at : (cs us : List ℕ) (p : Place) → IsUtf8 cs → 0 < length us → character_length us ≡ None → ill_formed_from p (cs ++ us) ≡ Some (place_after p cs)
stuck_at cs us p u some is = utf8_passed cs us p u ∙ stuck_by us (place_after p cs) some is

-- Texts that have tokens of given kinds.
use Rattle.std.proofs.Common.{◌≡◌, ℕ, zero, suc, ◌+◌, ◌-◌, ◌<◌, true, List, [], ◌∷◌, ◌++◌, length, take, drop, refl, ap, sym, ◌∙◌, subst, arith}
use Rattle.std.specs.Str.{IsUtf8, IsAscii}
use Rattle.std.proofs.lemmas.Str.{IsUtf8-nil, IsUtf8-append, IsUtf8-from_ascii}
use Rattle.std.proofs.lemmas.Str.Ascii.{IsAscii-nil, IsAscii-cons}
use Rattle.std.proofs.lemmas.List.{take_at, drop_at, drop-drop}
use Rattle.hipe_terms.specs.declared.place.Place.{Place}
use Rattle.core_text.specs.Bytes.{is_space}
use Rattle.core_text.specs.Places.{place_after}
use Rattle.core_token.specs.declared.token.Sort.{Sort}
use Rattle.core_token.specs.declared.token.Token.{Token}
use Rattle.core_token.specs.Spelling.{space, Spells}
use Rattle.core_token.specs.Text.{HasTokens, nothing as no_token, blank, token as first_token, bytes_of}
use Rattle.core_grammar.specs.declared.terminal.Kind.{Kind}
use Rattle.core_grammar.specs.Leave.{token}
use Rattle.core_print.specs.Printed.{indentation}
use Rattle.core_round_trip.proofs.TreeKinds.{Kinds, nothing, next}
use Rattle.core_reader.specs.Terminals.{kind_of, terminals_of}

-- the tokens of a text that goes on so from its byte i, at the place p, and their kinds
abbrev pub TokensAt : List ℕ → List Kind → List ℕ → ℕ → Place → Type 0
TokensAt us ks s i p = (ts : List Token) × HasTokens us i p ts × Kinds ks (terminals_of s ts)

-- Bytes that are UTF-8 and have tokens of these kinds, wherever they stand at the end of a text.
pub record HasKinds (us : List ℕ) (ks : List Kind) : Type 0 where
  pub utf8 : IsUtf8 us
  pub tokens : (s : List ℕ) (i : ℕ) (p : Place) → drop i s ≡ us → TokensAt us ks s i p

pub at_end : HasKinds [] []
at_end = record { utf8 = IsUtf8-nil; tokens = λ s i p e. ([], no_token, nothing) }

behind : (s cs us : List ℕ) (i : ℕ) → drop i s ≡ cs ++ us → drop (i + length cs) s ≡ us
behind s cs us i e = sym (drop-drop (length cs) i s) ∙ ap (drop (length cs)) e ∙ drop_at cs us (length cs) refl

here : (s cs us : List ℕ) (i : ℕ) → drop i s ≡ cs ++ us → take (i + length cs - i) (drop i s) ≡ cs
here s cs us i e = ap (take (i + length cs - i)) e ∙ ap (λ n. take n (cs ++ us)) (omega arith) ∙ take_at cs us (length cs) refl

-- ---- bytes of ASCII

abbrev pub AreAscii : List ℕ → Type 0
AreAscii [] = Unit {0}
AreAscii (c ∷ cs) = (c < 128) × AreAscii cs

are_ascii : (cs : List ℕ) → AreAscii cs → IsAscii cs
are_ascii [] h = IsAscii-nil
are_ascii (c ∷ cs) h = IsAscii-cons c cs h.0 (are_ascii cs h.1)

pub ascii_utf8 : (cs : List ℕ) → AreAscii cs → IsUtf8 cs
ascii_utf8 cs h = IsUtf8-from_ascii cs (are_ascii cs h)

-- ---- white space

after_blank : (c : ℕ) (us : List ℕ) (ks : List Kind) → is_space c ≡ true → c < 128 → HasKinds us ks → HasKinds (c ∷ us) ks
after_blank c us ks is small h = record {
  utf8 = IsUtf8-append (c ∷ []) us (ascii_utf8 (c ∷ []) (small, tt)) h.utf8;
  tokens = λ s i p e. let r = h.tokens s (i + 1) (place_after p (c ∷ [])) (behind s (c ∷ []) us i e) in (r.0, blank (space is) r.1, r.2);
}

pub after_space : (us : List ℕ) (ks : List Kind) → HasKinds us ks → HasKinds (32 ∷ us) ks
after_space us ks h = after_blank 32 us ks refl (omega arith) h

after_indentation : (d : ℕ) (us : List ℕ) (ks : List Kind) → HasKinds us ks → HasKinds (indentation d ++ us) ks
after_indentation zero us ks h = h
after_indentation (suc d) us ks h = after_space (32 ∷ indentation d ++ us) ks (after_space (indentation d ++ us) ks (after_indentation d us ks h))

pub after_line : (d : ℕ) (us : List ℕ) (ks : List Kind) → HasKinds us ks → HasKinds (10 ∷ indentation d ++ us) ks
after_line d us ks h = after_blank 10 (indentation d ++ us) ks refl (omega arith) (after_indentation d us ks h)

-- ---- a token

pub after_token : (sort : Sort) (cs us : List ℕ) (k : Kind) (ks : List Kind) → Spells sort cs us → kind_of sort cs ≡ k → IsUtf8 cs → HasKinds us ks → HasKinds (cs ++ us) (k ∷ ks)
after_token sort cs us k ks is kind utf8 h = record { utf8 = IsUtf8-append cs us utf8 h.utf8; tokens = at }
  where
    at : (s : List ℕ) (i : ℕ) (p : Place) → drop i s ≡ cs ++ us → TokensAt (cs ++ us) (k ∷ ks) s i p
    at s i p e =
        let r = h.tokens s (i + length cs) (place_after p cs) (behind s cs us i e) in
        let t : Token = record { sort = sort; at = p; start = i; end = i + length cs } in
        let same : kind_of sort (bytes_of s t) ≡ k = ap (kind_of sort) (here s cs us i e) ∙ kind in
        (t ∷ r.0, first_token is r.1, subst (λ j. Kinds (k ∷ ks) (token j p ∷ terminals_of s r.0)) (sym same) (next p r.2))

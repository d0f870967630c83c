-- The text of a constant has the tokens of its kinds.
use Rattle.std.proofs.Common.{ℕ, ◌+◌, List, [], ◌∷◌, ◌++◌, refl, sym, subst, append_assoc}
use Rattle.std.specs.Fmt.{signed_decimal}
use Rattle.hipe_terms.specs.Terms.{Term, Terms, integer, atom, nil, cons, tuple, fun, none, more}
use Rattle.hipe_terms.specs.Shown.{quoted, shown, shown_tail, shown_all, shown_more}
use Rattle.core_grammar.specs.declared.terminal.Kind.{Kind}
use Rattle.core_grammar.specs.declared.terminal.Mark.{Mark}
use Rattle.core_print.specs.Printed.{Piece}
use Rattle.core_round_trip.proofs.TreeKinds.{integer_kind, term_kinds, tail_kinds, terms_kinds, terms_behind}
use Rattle.core_round_trip.specs.Fits.{TermFits, TermsFit}
use Rattle.core_round_trip.proofs.Tokens.{HasKinds}
use Rattle.core_round_trip.proofs.Numerals.{IsApart}
use Rattle.core_round_trip.proofs.PieceKinds.{Open, a_constant_by, integer_read, atom_read, open_brace, close_brace, open_square, close_square, comma, bar}

-- three texts one behind the other
chain : (a b us : List ℕ) (ks : List Kind) → HasKinds (a ++ (b ++ us)) ks → HasKinds ((a ++ b) ++ us) ks
chain a b us ks h = subst (λ t. HasKinds t ks) (sym (append_assoc a b us)) h

more_apart : (ts : Terms) (us : List ℕ) → IsApart us → IsApart (shown_more [] ts ++ us)
more_apart none us h = h
more_apart (more t ts) us h = refl

tail_apart : (n k : ℕ) (t : Term) (us : List ℕ) → TermFits n k t → IsApart (shown_tail [] t ++ us)
tail_apart n k (integer i) us f = refl
tail_apart n k (atom a) us f = refl
tail_apart n k nil us f = refl
tail_apart n k (cons a b) us f = refl
tail_apart n k (tuple ts) us f = refl
tail_apart n k (fun g ts) us f = absurd f

module _ (n : ℕ) where
  mutual
    pub term_read : (k : ℕ) (t : Term) (us : List ℕ) (ks : List Kind) → TermFits n k t → IsApart us → HasKinds us ks → HasKinds (shown [] t ++ us) (term_kinds t ks)
    term_read k (integer i) us ks f apart h = integer_read i us ks f.1 apart h
    term_read k (atom a) us ks f apart h = atom_read a us ks f.1 h
    term_read k nil us ks f apart h = open_square.read (93 ∷ us) (Kind.Mark Mark.CloseSquare ∷ ks) (close_square.read us ks h)
    term_read k (cons a b) us ks f apart h =
        open_square.read ((shown [] a ++ shown_tail [] b) ++ us) (term_kinds a (tail_kinds b ks))
        (chain (shown [] a) (shown_tail [] b) us (term_kinds a (tail_kinds b ks)) (term_read (k + 1) a (shown_tail [] b ++ us) (tail_kinds b ks) f.1 (tail_apart n k b us f.2) (tail_read k b us ks f.2 h)))
    term_read k (tuple ts) us ks f apart h =
        open_brace.read ((shown_all [] ts ++ 125 ∷ []) ++ us) (terms_kinds ts (Kind.Mark Mark.CloseBrace ∷ ks))
        (chain (shown_all [] ts) (125 ∷ []) us (terms_kinds ts (Kind.Mark Mark.CloseBrace ∷ ks)) (all_read (k + 1) ts (125 ∷ us) (Kind.Mark Mark.CloseBrace ∷ ks) f.1 refl (close_brace.read us ks h)))
    term_read k (fun g ts) us ks f apart h = absurd f

    -- what comes behind an element
    tail_read : (k : ℕ) (t : Term) (us : List ℕ) (ks : List Kind) → TermFits n k t → HasKinds us ks → HasKinds (shown_tail [] t ++ us) (tail_kinds t ks)
    tail_read k (integer i) us ks f h =
        let js = Kind.Mark Mark.CloseSquare ∷ ks in
        bar.read ((signed_decimal i ++ 93 ∷ []) ++ us) (integer_kind i ∷ js) (chain (signed_decimal i) (93 ∷ []) us (integer_kind i ∷ js) (integer_read i (93 ∷ us) js f.1 refl (close_square.read us ks h)))
    tail_read k (atom a) us ks f h =
        let js = Kind.Mark Mark.CloseSquare ∷ ks in
        bar.read ((quoted a ++ 93 ∷ []) ++ us) (Kind.Atom a ∷ js) (chain (quoted a) (93 ∷ []) us (Kind.Atom a ∷ js) (atom_read a (93 ∷ us) js f.1 (close_square.read us ks h)))
    tail_read k nil us ks f h = close_square.read us ks h
    tail_read k (cons a b) us ks f h =
        comma.read ((shown [] a ++ shown_tail [] b) ++ us) (term_kinds a (tail_kinds b ks))
        (chain (shown [] a) (shown_tail [] b) us (term_kinds a (tail_kinds b ks)) (term_read (k + 1) a (shown_tail [] b ++ us) (tail_kinds b ks) f.1 (tail_apart n k b us f.2) (tail_read k b us ks f.2 h)))
    tail_read k (tuple ts) us ks f h =
        let js = Kind.Mark Mark.CloseBrace ∷ Kind.Mark Mark.CloseSquare ∷ ks in
        let all = shown_all [] ts in
        bar.read (123 ∷ ((all ++ 125 ∷ []) ++ 93 ∷ []) ++ us) (Kind.Mark Mark.OpenBrace ∷ terms_kinds ts js)
        (open_brace.read (((all ++ 125 ∷ []) ++ 93 ∷ []) ++ us) (terms_kinds ts js)
        (chain (all ++ 125 ∷ []) (93 ∷ []) us (terms_kinds ts js)
        (chain all (125 ∷ []) (93 ∷ us) (terms_kinds ts js) (all_read (k + 1) ts (125 ∷ 93 ∷ us) js f.1 refl (close_brace.read (93 ∷ us) (Kind.Mark Mark.CloseSquare ∷ ks) (close_square.read us ks h))))))
    tail_read k (fun g ts) us ks f h = absurd f

    all_read : (k : ℕ) (ts : Terms) (us : List ℕ) (ks : List Kind) → TermsFit n k ts → IsApart us → HasKinds us ks → HasKinds (shown_all [] ts ++ us) (terms_kinds ts ks)
    all_read k none us ks f apart h = h
    all_read k (more t ts) us ks f apart h =
        chain (shown [] t) (shown_more [] ts) us (term_kinds t (terms_behind ts ks)) (term_read k t (shown_more [] ts ++ us) (terms_behind ts ks) f.0 (more_apart ts us apart) (more_read k ts us ks f.1 apart h))

    more_read : (k : ℕ) (ts : Terms) (us : List ℕ) (ks : List Kind) → TermsFit n k ts → IsApart us → HasKinds us ks → HasKinds (shown_more [] ts ++ us) (terms_behind ts ks)
    more_read k none us ks f apart h = h
    more_read k (more t ts) us ks f apart h =
        comma.read ((shown [] t ++ shown_more [] ts) ++ us) (term_kinds t (terms_behind ts ks))
        (chain (shown [] t) (shown_more [] ts) us (term_kinds t (terms_behind ts ks)) (term_read k t (shown_more [] ts ++ us) (terms_behind ts ks) f.0 (more_apart ts us apart) (more_read k ts us ks f.1 apart h)))

  pub a_constant : (k : ℕ) (t : Term) → TermFits n k t → Open (Piece.Constant t ∷ []) (λ ks. term_kinds t ks)
  a_constant k t f = a_constant_by t (λ ks. term_kinds t ks) (λ us ks apart h. term_read k t us ks f apart h)

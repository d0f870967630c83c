-- Terms, what programs compute with, and the terms that constants stand for.
use Rattle.std.specs.Prelude.{ℕ, suc, ℤ, List, [], ◌∷◌}
use Rattle.hipe_terms.specs.declared.constant.Constant.{Constant}
use Rattle.hipe_terms.specs.declared.constant.Constant.TheOpen.{Constant-F}
use Rattle.hipe_terms.specs.declared.constant.Constant.TheFolds.{fold-Constant}

-- An atom is the list of its code points. A fun is the number of its function and the values of its captured variables.
mutual
  pub data Term : Type 0 where
    integer : ℤ → Term
    atom : List ℕ → Term
    nil : Term
    cons : Term → Term → Term
    tuple : Terms → Term
    fun : ℕ → Terms → Term

  pub data Terms : Type 0 where
    none : Terms
    more : Term → Terms → Terms

-- a list of terms, as the elements of a tuple or as the captured values of a fun
abbrev pub terms : List Term → Terms
terms [] = none
terms (t ∷ ts) = more t (terms ts)

-- the same back
abbrev pub listed : Terms → List Term
listed none = []
listed (more t ts) = t ∷ listed ts

-- how many there are
abbrev pub count : Terms → ℕ
count none = 0
count (more t ts) = suc (count ts)

-- the list with these elements before its tail
abbrev pub cells : List Term → Term → Term
cells [] tail = tail
cells (t ∷ ts) tail = cons t (cells ts tail)

abbrev pub term_at : Constant-F Term → Term
term_at (Constant-F.Int n) = integer n
term_at (Constant-F.Atom a) = atom a
term_at Constant-F.Nil = nil
term_at (Constant-F.List ts tail) = cells ts tail
term_at (Constant-F.Tuple ts) = tuple (terms ts)

-- the term that a constant stands for
unfoldable pub term_of : Constant → Term
term_of = fold-Constant Term term_at

-- Steps of a run: what a terminal may begin, symbols that make the same moves, and makers.
use Rattle.std.proofs.Common.{◌≡◌, List, [], ◌∷◌, Bool, true, false, ◌&&◌, if◌then◌else◌, refl, ap}
use Rattle.hipe_terms.specs.declared.place.Place.{Place}
use Rattle.core_grammar.specs.declared.terminal.Kind.{Kind}
use Rattle.core_grammar.specs.declared.terminal.Mark.{Mark}
use Rattle.core_grammar.specs.declared.terminal.Terminal.{Terminal}
use Rattle.core_grammar.specs.Leave.{Leave}
use Rattle.core_parser.specs.declared.symbol.Closer.{Closer}
use Rattle.core_parser.specs.declared.symbol.Maker.{Maker}
use Rattle.core_parser.specs.declared.symbol.Symbol.{Symbol}
use Rattle.core_parser.specs.Values.{Values, made}
use Rattle.core_parser.specs.Machine.{Symbols, move, gone, all_ok, run, Answer, closes}

pub allowed : {b : Bool} → b ≡ true → (x y : Answer) → (if b && true then x else y) ≡ x
allowed h x y = ap (λ b. if b && true then x else y) h

-- the first terminal is of such a kind
abbrev pub begins : (Kind → Bool) → List Terminal → Bool
begins f [] = false
begins f (t ∷ ts) = f t.kind

-- there is a terminal
abbrev pub filled : Kind → Bool
filled t = true

-- no optional part takes it: neither `/` nor `=`
abbrev pub calm : Kind → Bool
calm (Kind.Mark Mark.Slash) = false
calm (Kind.Mark Mark.Equals) = false
calm _ = true

-- an atom, a number, a text, or an opening bracket but `<` and `(`: a pattern that isn't a variable begins so
abbrev pub opens_plain : Kind → Bool
opens_plain (Kind.Atom a) = true
opens_plain (Kind.Natural n) = true
opens_plain (Kind.Integer n) = true
opens_plain (Kind.Text s) = true
opens_plain (Kind.Mark Mark.OpenSquare) = true
opens_plain (Kind.Mark Mark.OpenBrace) = true
opens_plain _ = false

-- a part begins so that isn't annotated
abbrev pub opens_bare : Kind → Bool
opens_bare (Kind.Variable x) = true
opens_bare (Kind.Mark Mark.Less) = true
opens_bare (Kind.Mark Mark.Apply) = true
opens_bare (Kind.Mark Mark.Call) = true
opens_bare (Kind.Mark Mark.Case) = true
opens_bare (Kind.Mark Mark.Catch) = true
opens_bare (Kind.Mark Mark.Do) = true
opens_bare (Kind.Mark Mark.Fun) = true
opens_bare (Kind.Mark Mark.Let) = true
opens_bare (Kind.Mark Mark.Letrec) = true
opens_bare (Kind.Mark Mark.Module) = true
opens_bare (Kind.Mark Mark.Primop) = true
opens_bare (Kind.Mark Mark.Try) = true
opens_bare t = opens_plain t

-- the same, but no list
abbrev pub opens_other : Kind → Bool
opens_other (Kind.Mark Mark.OpenSquare) = false
opens_other t = opens_bare t

-- a part begins so
abbrev pub opens : Kind → Bool
opens (Kind.Mark Mark.OpenRound) = true
opens t = opens_bare t

bare_from_plain : (t : Kind) → opens_plain t ≡ true → opens_bare t ≡ true
bare_from_plain (Kind.Atom a) h = refl
bare_from_plain (Kind.Natural n) h = refl
bare_from_plain (Kind.Integer n) h = refl
bare_from_plain (Kind.Text s) h = refl
bare_from_plain (Kind.Mark Mark.OpenSquare) h = refl
bare_from_plain (Kind.Mark Mark.OpenBrace) h = refl
bare_from_plain _ h = cc

opens_from_bare : (t : Kind) → opens_bare t ≡ true → opens t ≡ true
opens_from_bare (Kind.Mark Mark.OpenRound) h = refl
opens_from_bare _ h = h

calm_from_opens : (t : Kind) → opens t ≡ true → calm t ≡ true
calm_from_opens (Kind.Mark Mark.Slash) h = cc
calm_from_opens (Kind.Mark Mark.Equals) h = cc
calm_from_opens _ h = refl

-- what begins so begins so
pub widened : (f g : Kind → Bool) → ((t : Kind) → f t ≡ true → g t ≡ true) → (ts : List Terminal) → begins f ts ≡ true → begins g ts ≡ true
widened f g to [] h = h
widened f g to (t ∷ ts) h = to t.kind h

pub plain_is_bare : (ts : List Terminal) → begins opens_plain ts ≡ true → begins opens_bare ts ≡ true
plain_is_bare ts h = widened opens_plain opens_bare bare_from_plain ts h

pub bare_opens : (ts : List Terminal) → begins opens_bare ts ≡ true → begins opens ts ≡ true
bare_opens ts h = widened opens_bare opens opens_from_bare ts h

pub opens_calm : (ts : List Terminal) → begins opens ts ≡ true → begins calm ts ≡ true
opens_calm ts h = widened opens calm calm_from_opens ts h

pub is_filled : (f : Kind → Bool) (ts : List Terminal) → begins f ts ≡ true → begins filled ts ≡ true
is_filled f ts h = widened f filled (λ t h. refl) ts h

-- what closes

abbrev pub closing : Closer → Mark
closing Closer.Round = Mark.CloseRound
closing Closer.Brace = Mark.CloseBrace
closing Closer.Square = Mark.CloseSquare
closing Closer.Angle = Mark.Greater

pub it_closes : (c : Closer) → closes c (Kind.Mark (closing c)) ≡ true
it_closes Closer.Round = refl
it_closes Closer.Brace = refl
it_closes Closer.Square = refl
it_closes Closer.Angle = refl

pub comma_closes_none : (c : Closer) → closes c (Kind.Mark Mark.Comma) ≡ false
comma_closes_none Closer.Round = refl
comma_closes_none Closer.Brace = refl
comma_closes_none Closer.Square = refl
comma_closes_none Closer.Angle = refl

pub closing_is_calm : (c : Closer) → calm (Kind.Mark (closing c)) ≡ true
closing_is_calm Closer.Round = refl
closing_is_calm Closer.Brace = refl
closing_is_calm Closer.Square = refl
closing_is_calm Closer.Angle = refl

pub opener_closes_none : (c : Closer) (t : Kind) → opens t ≡ true → closes c t ≡ false
opener_closes_none Closer.Round (Kind.Mark Mark.CloseRound) h = cc
opener_closes_none Closer.Brace (Kind.Mark Mark.CloseBrace) h = cc
opener_closes_none Closer.Square (Kind.Mark Mark.CloseSquare) h = cc
opener_closes_none Closer.Angle (Kind.Mark Mark.Greater) h = cc
opener_closes_none Closer.Round _ h = refl
opener_closes_none Closer.Brace _ h = refl
opener_closes_none Closer.Square _ h = refl
opener_closes_none Closer.Angle _ h = refl

module _ (ok : Leave) (z : Place) where
  -- the same moves, the same run
  pub same : (f : Kind → Bool) (ss ss' : Symbols) (vs vs' : Values) → ((t : Kind) (p : Place) → f t ≡ true → move ss vs t p ≡ move ss' vs' t p) → (ts : List Terminal) → begins f ts ≡ true → run ok z ss vs ts ≡ run ok z ss' vs' ts
  same f ss ss' vs vs' so [] h = cc
  same f ss ss' vs vs' so (t ∷ ts) h = ap (λ m. gone m (λ needs. all_ok ok needs (t ∷ ts)) t.kind t.at (λ ss' vs'. run ok z ss' vs' ts)) (so t.kind t.at h)

  -- a maker takes no terminal
  pub makes : (f : Kind → Bool) (m : Maker) (ss : Symbols) (vs : Values) (us : List Terminal) → begins f us ≡ true → run ok z (Symbol.Make m ∷ ss) vs us ≡ run ok z ss (made m vs) us
  makes f m ss vs us h = same f (Symbol.Make m ∷ ss) ss vs (made m vs) (λ t p h. refl) us h

  pub made_as : (ss : Symbols) (us : List Terminal) {vs vs' : Values} → vs ≡ vs' → run ok z ss vs us ≡ run ok z ss vs' us
  made_as ss us h = ap (λ vs. run ok z ss vs us) h

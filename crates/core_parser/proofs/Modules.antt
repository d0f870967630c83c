-- Runs over modules and calls: what is derived is read, so there is one tree.
use Rattle.std.proofs.Common.{◌≡◌, ℕ, ◌+◌, List, [], ◌∷◌, ◌++◌, Bool, true, ◌&&◌, if◌then◌else◌, Ok, refl, ap, sym, ◌∙◌, append_assoc}
use Rattle.hipe_terms.specs.declared.place.Place.{Place}
use Rattle.hipe_terms.specs.declared.constant.Call.{Call}
use Rattle.hipe_terms.specs.declared.constant.Constant.{Constant}
use Rattle.core_ast.specs.declared.tree.FunName.{FunName}
use Rattle.core_ast.specs.declared.tree.Module.{Module}
use Rattle.core_grammar.specs.declared.terminal.Kind.{Kind}
use Rattle.core_grammar.specs.declared.terminal.Mark.{Mark}
use Rattle.core_grammar.specs.declared.terminal.Terminal.{Terminal}
use Rattle.core_grammar.specs.Leave.{argument, Leave, mark}
use Rattle.core_grammar.specs.Language.{Derives, DerivesCall}
use Rattle.core_grammar.specs.Grammar as G
use Rattle.core_parser.specs.declared.symbol.Closer.{Closer}
use Rattle.core_parser.specs.declared.symbol.Element.{Element}
use Rattle.core_parser.specs.declared.symbol.Maker.{Maker}
use Rattle.core_parser.specs.declared.symbol.Part.{Part}
use Rattle.core_parser.specs.declared.symbol.Symbol.{Symbol}
use Rattle.core_parser.specs.declared.symbol.Term.{Term}
use Rattle.core_parser.specs.declared.value.Value.{Value}
use Rattle.core_parser.specs.Values.{Values}
use Rattle.core_parser.specs.Machine.{Symbols, move, gone, all_ok, run, Answer, also, constant, argument_pushed, module_start, call_start}
use Rattle.core_parser.proofs.Steps.{begins, calm, opens, opens_bare, same, makes}
use Rattle.core_parser.proofs.Elements as Elements
use Rattle.core_parser.proofs.Constants.{constant_runs, annotation_runs, BareRuns, annotated_runs, Anything}
use Rattle.core_parser.proofs.Expressions.{definitions_calm, definitions_run}

first_is_argument : (ss : Symbols) (vs : Values) (t : Kind) (p : Place) → opens t ≡ true → move (Symbol.ArgumentsFirst ∷ ss) vs t p ≡ move (Symbol.Argument 1 ∷ argument_pushed 2 ss) vs t p
first_is_argument ss vs (Kind.Mark Mark.CloseRound) p h = cc
first_is_argument ss vs _ p h = refl

also_allowed : {b : Bool} → b ≡ true → (c : Bool) (x y : Answer) → (if b && c then x else y) ≡ (if c then x else y)
also_allowed h c x y = ap (λ b. if b && c then x else y) h

module _ (ok : Leave) (z : Place) where
  -- exports and attributes

  abbrev put_export : FunName × Place → Values → Values
  put_export e vs = Value.Name e.0 ∷ Value.At e.1 ∷ vs

  export_item : (e : FunName × Place) (ts us : List Terminal) → G.ExportOf ok e ts us → Elements.ItemRuns ok z (FunName × Place) Element.Export put_export e ts us
  export_item e ts us (G.bare (G.function_name q r)) = (refl, λ ss vs _. refl)
  export_item e ts us (G.annotated o (G.function_name q r) n) = (refl, λ ss vs _. annotation_runs ok z _ us n ss (put_export e vs))

  constant_bare : (c : Constant) (ts us : List Terminal) → G.ConstantOf ok 1 c ts us → (ss : Symbols) (vs : Values) → begins calm us ≡ true → run ok z (Symbol.Bare (Part.Constant 1) ∷ ss) vs ts ≡ run ok z ss (Value.Constant c ∷ vs) us
  constant_bare c ts us d ss vs h =
      let r = constant_runs ok z 1 c ts us d in
      same ok z opens (Symbol.Bare (Part.Constant 1) ∷ ss) (Symbol.Item (Element.Term (Term.Constant 1)) ∷ ss) vs vs (λ t p h. refl) ts r.0 ∙ r.1 ss vs h

  constant_opens : (c : Constant) (ts us : List Terminal) → G.ConstantOf ok 1 c ts us → begins opens_bare ts ≡ true
  constant_opens c ts us (G.constant_integer p (G.digits n) h) = refl
  constant_opens c ts us (G.constant_integer p (G.signed_or_character n) h) = refl
  constant_opens c ts us (G.constant_characters s p h) = refl
  constant_opens c ts us (G.constant_atom a p h) = refl
  constant_opens c ts us (G.constant_empty p q h) = refl
  constant_opens c ts us (G.constant_tuple p q h d) = refl
  constant_opens c ts us (G.constant_list p q h d) = refl
  constant_opens c ts us (G.constant_list_before p q r h d e) = refl

  annotated_constant : (c : Constant) (ts us : List Terminal) → G.Annotated ok (G.ConstantOf ok 1 c) ts us → (ss : Symbols) (vs : Values) → begins calm us ≡ true → run ok z (Symbol.Annotated (Part.Constant 1) ∷ ss) vs ts ≡ run ok z ss (Value.Constant c ∷ vs) us
  annotated_constant c ts us d ss vs h = annotated_runs ok z (λ us. begins calm us ≡ true) (λ p us. refl) (Part.Constant 1) (λ vs. Value.Constant c ∷ vs) (G.ConstantOf ok 1 c) (λ ts us d. (constant_opens c ts us d, constant_bare c ts us d)) ts us d ss vs h

  abbrev put_attribute : List ℕ × Constant → Values → Values
  put_attribute x vs = Value.Constant x.1 ∷ Value.Atom x.0 ∷ vs

  attribute_item : (x : List ℕ × Constant) (ts us : List Terminal) → G.AttributeOf ok x ts us → Elements.ItemRuns ok z (List ℕ × Constant) Element.Attribute put_attribute x ts us
  attribute_item x ts us (G.attribute {a = a} {c = c} {us = xs} q (G.bare (G.atom p)) d) = (refl, λ ss vs h. annotated_constant c xs us d ss (Value.Atom a ∷ vs) h)
  attribute_item x ts us (G.attribute {a = a} {c = c} {us = xs} q (G.annotated o (G.atom p) n) d) = (
    refl,
    λ ss vs h.
        annotation_runs ok z _ (mark Mark.Equals q ∷ xs) n (Symbol.Wants Mark.Equals ∷ Symbol.Annotated (Part.Constant 1) ∷ ss) (Value.Atom a ∷ vs)
        ∙ annotated_constant c xs us d ss (Value.Atom a ∷ vs) h,
  )

  -- modules

  bare_module_runs : (m : Module) (ts us : List Terminal) → G.BareModule ok m ts us → BareRuns ok z (Anything ok z) Part.Module (λ vs. Value.Module m ∷ vs) ts us
  bare_module_runs m ts us (G.«module» {exports = exports} {attributes = attributes} {ds = ds} {ts = xs} {us = ys} {vs = bs} a p q r s t u v w e f d) = (
    refl,
    λ ss vs _.
        Elements.empty_list_runs ok z (FunName × Place) (G.ExportOf ok) Element.Export put_export Value.Exports (λ e es vs. refl) export_item refl Closer.Square exports xs (mark Mark.Attributes t ∷ mark Mark.OpenSquare u ∷ ys) s e
        (Symbol.Wants Mark.Attributes ∷ Symbol.Wants Mark.OpenSquare ∷ Symbol.Make (Maker.Empty Element.Attribute) ∷ Symbol.First Element.Attribute Closer.Square ∷ Symbol.Make Maker.NoDefinitions ∷ Symbol.Definitions 1 ∷ Symbol.ModuleEnd ∷ ss) (Value.Atom a ∷ vs)
        ∙ Elements.empty_list_runs ok z (List ℕ × Constant) (G.AttributeOf ok) Element.Attribute put_attribute Value.Attributes (λ x xs vs. refl) attribute_item refl Closer.Square attributes ys bs v f
        (Symbol.Make Maker.NoDefinitions ∷ Symbol.Definitions 1 ∷ Symbol.ModuleEnd ∷ ss) (Value.Exports exports ∷ Value.Atom a ∷ vs)
        ∙ makes ok z calm Maker.NoDefinitions (Symbol.Definitions 1 ∷ Symbol.ModuleEnd ∷ ss) (Value.Attributes attributes ∷ Value.Exports exports ∷ Value.Atom a ∷ vs) bs (definitions_calm ok z 1 ds bs _ d refl)
        ∙ definitions_run ok z 1 ds bs (mark Mark.End w ∷ us) d [] (Symbol.ModuleEnd ∷ ss) (Value.Attributes attributes ∷ Value.Exports exports ∷ Value.Atom a ∷ vs) refl,
  )

  -- a module that is derived is read
  pub derived_runs : (ts : List Terminal) (m : Module) → Derives ok ts m → run ok z module_start [] ts ≡ Ok (Value.Module m ∷ [])
  derived_runs ts m d = annotated_runs ok z (Anything ok z) (λ p us. tt) Part.Module (λ vs. Value.Module m ∷ vs) (G.BareModule ok m) (bare_module_runs m) ts [] d [] [] tt

  -- calls

  -- an argument that may stand is read as a constant
  also_runs : (i : ℕ) (t : Kind) (p : Place) (ss : Symbols) (vs : Values) (ts : List Terminal) (on : Symbols → Values → Answer) → ok (argument i) ts ≡ true → gone (also (argument i) (constant 1 t p ss vs)) (λ needs. all_ok ok needs ts) t p on ≡ gone (constant 1 t p ss vs) (λ needs. all_ok ok needs ts) t p on
  also_runs i (Kind.Natural n) p ss vs ts on h = also_allowed h _ _ _
  also_runs i (Kind.Integer n) p ss vs ts on h = also_allowed h _ _ _
  also_runs i (Kind.Text s) p ss vs ts on h = also_allowed h _ _ _
  also_runs i (Kind.Atom a) p ss vs ts on h = also_allowed h _ _ _
  also_runs i (Kind.Mark Mark.OpenSquare) p ss vs ts on h = also_allowed h _ _ _
  also_runs i (Kind.Mark Mark.OpenBrace) p ss vs ts on h = also_allowed h _ _ _
  also_runs i _ p ss vs ts on h = refl

  argument_is_constant : (i : ℕ) (ss : Symbols) (vs : Values) (ts : List Terminal) → ok (argument i) ts ≡ true → run ok z (Symbol.Argument i ∷ ss) vs ts ≡ run ok z (Symbol.Item (Element.Term (Term.Constant 1)) ∷ ss) vs ts
  argument_is_constant i ss vs [] h = refl
  argument_is_constant i ss vs (t ∷ ts) h = also_runs i t.kind t.at ss vs (t ∷ ts) (λ ss' vs'. run ok z ss' vs' ts) h

  argument_runs : (i : ℕ) (c : Constant) (ts us : List Terminal) → ok (argument i) ts ≡ true → G.ConstantOf ok 1 c ts us → (ss : Symbols) (vs : Values) → begins calm us ≡ true → run ok z (Symbol.Argument i ∷ ss) vs ts ≡ run ok z ss (Value.Constant c ∷ vs) us
  argument_runs i c ts us h d ss vs f = argument_is_constant i ss vs ts h ∙ (constant_runs ok z 1 c ts us d).1 ss vs f

  abbrev call_with : List ℕ → List Constant → Value
  call_with a cs = Value.Call (record { name = a; args = cs })

  arguments_run : (i : ℕ) (cs : List Constant) (ts us : List Terminal) (r : Place) → G.SomeArguments ok i cs ts (mark Mark.CloseRound r ∷ us) → (bs : List Constant) (a : List ℕ) (ss : Symbols) (vs : Values) → run ok z (Symbol.Argument i ∷ argument_pushed (i + 1) ss) (Value.Constants bs ∷ Value.Atom a ∷ vs) ts ≡ run ok z ss (call_with a (bs ++ cs) ∷ vs) us
  arguments_run i cs ts us r (G.last_argument {c = c} h d) bs a ss vs = argument_runs i c ts (mark Mark.CloseRound r ∷ us) h d (argument_pushed (i + 1) ss) (Value.Constants bs ∷ Value.Atom a ∷ vs) refl
  arguments_run i cs ts us r (G.more_arguments {c = c} {cs = ds} {us = xs} p h d e) bs a ss vs =
      argument_runs i c ts (mark Mark.Comma p ∷ xs) h d (argument_pushed (i + 1) ss) (Value.Constants bs ∷ Value.Atom a ∷ vs) refl
      ∙ arguments_run (i + 1) ds xs us r e (bs ++ c ∷ []) a ss vs
      ∙ ap (λ xs. run ok z ss (call_with a xs ∷ vs) us) (append_assoc bs (c ∷ []) ds)

  some_arguments_open : (i : ℕ) (cs : List Constant) (ts us : List Terminal) → G.SomeArguments ok i cs ts us → begins opens ts ≡ true
  some_arguments_open i cs ts us (G.last_argument {c = c} h d) = (constant_runs ok z 1 c ts us d).0
  some_arguments_open i cs ts us (G.more_arguments {c = c} {us = xs} p h d e) = (constant_runs ok z 1 c ts (mark Mark.Comma p ∷ xs) d).0

  all_arguments_run : (cs : List Constant) (ts us : List Terminal) (r : Place) → G.ArgumentsOf ok cs ts (mark Mark.CloseRound r ∷ us) → (a : List ℕ) → run ok z (Symbol.Make (Maker.Empty (Element.Term (Term.Constant 1))) ∷ Symbol.ArgumentsFirst ∷ []) (Value.Atom a ∷ []) ts ≡ run ok z [] (call_with a cs ∷ []) us
  all_arguments_run cs ts us r G.no_arguments a = refl
  all_arguments_run cs ts us r (G.some_arguments d) a =
      let o = some_arguments_open 1 cs ts (mark Mark.CloseRound r ∷ us) d in
      makes ok z opens (Maker.Empty (Element.Term (Term.Constant 1))) (Symbol.ArgumentsFirst ∷ []) (Value.Atom a ∷ []) ts o
      ∙ same ok z opens (Symbol.ArgumentsFirst ∷ []) (Symbol.Argument 1 ∷ argument_pushed 2 []) (Value.Constants [] ∷ Value.Atom a ∷ []) (Value.Constants [] ∷ Value.Atom a ∷ []) (first_is_argument [] (Value.Constants [] ∷ Value.Atom a ∷ [])) ts o
      ∙ arguments_run 1 cs ts us r d [] a [] []

  -- a call that is derived is read
  pub derived_call_runs : (ts : List Terminal) (c : Call) → DerivesCall ok ts c → run ok z call_start [] ts ≡ Ok (Value.Call c ∷ [])
  derived_call_runs ts c (G.call_of {cs = cs} {ts = xs} a p q r d) = all_arguments_run cs xs [] r d a

abbrev read_as : List Value → Answer
read_as vs = Ok vs

pub one_value : {x y : List Value} → read_as x ≡ read_as y → x ≡ y
one_value h = cc

somewhere : Place
somewhere = record { line = 0; col = 0 }

pub one_module : (ok : Leave) (ts : List Terminal) (m n : Module) → Derives ok ts m → Derives ok ts n → m ≡ n
one_module ok ts m n d e =
    let a : Value.Module m ∷ [] ≡ Value.Module n ∷ [] = one_value (sym (derived_runs ok somewhere ts m d) ∙ derived_runs ok somewhere ts n e) in cc

pub one_call : (ok : Leave) (ts : List Terminal) (c d : Call) → DerivesCall ok ts c → DerivesCall ok ts d → c ≡ d
one_call ok ts c d f g =
    let a : Value.Call c ∷ [] ≡ Value.Call d ∷ [] = one_value (sym (derived_call_runs ok somewhere ts c f) ∙ derived_call_runs ok somewhere ts d g) in cc

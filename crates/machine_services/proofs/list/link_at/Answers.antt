use Rattle.std.proofs.Common.{Some, None, sym, ap, ◌∙◌, ⊎_elim}
use Rattle.heap_terms.specs.Seen.{reference_of, one_seen}
use Rattle.machine_services.specs.Ends.{link_of}
use Rattle.machine_services.proofs.Spines.{falls, spine_seen_as}
use Rattle.machine_services.proofs.list.link_at.Goals as goal

pub returns-in-None-clause-link : goal.returns-in-None-clause-link
returns-in-None-clause-link c = ap link_of c.in-None.ensures

pub returns-in-Nil-clause-link : goal.returns-in-Nil-clause-link
returns-in-Nil-clause-link c = ap link_of (ap (λ s. Some (one_seen s)) (sym c.in-Nil.is) ∙ c.in-Some.ensures)

pub returns-in-Cons-clause-link : goal.returns-in-Cons-clause-link
returns-in-Cons-clause-link c = ap link_of (ap (λ s. Some (one_seen s)) (sym c.in-Cons.is) ∙ c.in-Some.ensures)

pub returns-in-Integer-clause-link : goal.returns-in-Integer-clause-link
returns-in-Integer-clause-link c =
    ⊎_elim (λ p. ap link_of (ap (λ s. Some (one_seen s)) (sym p.1) ∙ c.in-Some.ensures))
    (λ p. ap link_of (ap (λ s. Some (one_seen s)) (sym p.1) ∙ c.in-Some.ensures))
    c.in-Integer.is

pub returns-in-Tuple-clause-link : goal.returns-in-Tuple-clause-link
returns-in-Tuple-clause-link c =
    ⊎_elim (λ p. ap link_of (ap (λ s. Some (one_seen s)) (sym p.2) ∙ c.in-Some.ensures))
    (λ p. ap link_of (ap (λ s. Some (one_seen s)) (sym p.3) ∙ c.in-Some.ensures))
    c.in-Tuple.is

pub returns-in-None-clause-level : goal.returns-in-None-clause-level
returns-in-None-clause-level c = spine_seen_as _ _ (reference_of c.args.at) None (sym c.in-None.ensures)

pub returns-in-Nil-clause-level : goal.returns-in-Nil-clause-level
returns-in-Nil-clause-level c = spine_seen_as _ _ (reference_of c.args.at) _ (sym c.in-Some.ensures ∙ ap (λ s. Some (one_seen s)) c.in-Nil.is)

pub returns-in-Cons-clause-level : goal.returns-in-Cons-clause-level
returns-in-Cons-clause-level c = spine_seen_as _ _ (reference_of c.args.at) _ (sym c.in-Some.ensures ∙ ap (λ s. Some (one_seen s)) c.in-Cons.is)

pub returns-in-Integer-clause-level : goal.returns-in-Integer-clause-level
returns-in-Integer-clause-level c =
    ⊎_elim (λ p. spine_seen_as _ _ (reference_of c.args.at) _ (sym c.in-Some.ensures ∙ ap (λ s. Some (one_seen s)) p.1))
    (λ p. spine_seen_as _ _ (reference_of c.args.at) _ (sym c.in-Some.ensures ∙ ap (λ s. Some (one_seen s)) p.1))
    c.in-Integer.is

pub returns-in-Tuple-clause-level : goal.returns-in-Tuple-clause-level
returns-in-Tuple-clause-level c =
    ⊎_elim (λ p. spine_seen_as _ _ (reference_of c.args.at) _ (sym c.in-Some.ensures ∙ ap (λ s. Some (one_seen s)) p.2))
    (λ p. spine_seen_as _ _ (reference_of c.args.at) _ (sym c.in-Some.ensures ∙ ap (λ s. Some (one_seen s)) p.3))
    c.in-Tuple.is

pub returns-in-Cons-clause-falls : goal.returns-in-Cons-clause-falls
returns-in-Cons-clause-falls c = falls _ _ (reference_of c.args.at) (reference_of c.in-Cons.head) (reference_of c.in-Cons.tail) (sym c.in-Some.ensures ∙ ap (λ s. Some (one_seen s)) c.in-Cons.is)

use Rattle.std.proofs.Common.{◌≡◌, List, sym, ap, subst, ◌∙◌, map}
use Rattle.owl_documents.specs.declared.terms.Role.{Role}
use Rattle.owl_documents.specs.declared.terms.Class.{Class}
use Rattle.owl_reader.specs.Statements.{Said, ◌>>=◌, Term, all_said, role_term, class_term}
use Rattle.owl_reader.specs.Statements.{said_behind, terms_said}
use Rattle.owl_documents.specs.Views.{role_seen, class_seen}
use Rattle.owl_documents.specs.ItemViews.{axiom_seen}
use Rattle.owl_reader.specs.StatementViews.{Says, term_seen, entities_seen}
use Rattle.owl_reader.proofs.axioms.terms_said.Goals as goal

pub returns-in-Ok : goal.returns-in-Ok
unfolding terms_said
returns-in-Ok c =
    let bytes = c.args.bytes.now in
    let known = c.args.known.now in
    let es = entities_seen c.args.entities.now in
    let classes = c.args.axiom.now.classes.items in
    let then = λ (r : Said (List Term)).
    r >>= (λ roles. said_behind roles
    (all_said (class_term known es) (map (class_seen bytes) classes))) in
    let e : terms_said known es (axiom_seen bytes c.args.axiom.now)
    ≡ said_behind (map term_seen c.in-Ok.roles.items)
    (all_said (class_term known es) (map (class_seen bytes) c.as_slice-in-Ok.result.now)) =
    ap (λ (rs : List Role). then (all_said (role_term known es) (map (role_seen bytes) rs)))
    (sym c.as_slice.ensures.value)
    ∙ ap then c.in-Ok.ensures
    ∙ ap (λ (cs : List Class). said_behind (map term_seen c.in-Ok.roles.items)
    (all_said (class_term known es) (map (class_seen bytes) cs)))
    (sym c.as_slice-in-Ok.ensures.value) in
    subst (λ (given : Said (List Term)).
    Says c.class_terms.result given (λ terms. map term_seen terms.items)) (sym e)
    c.class_terms.ensures

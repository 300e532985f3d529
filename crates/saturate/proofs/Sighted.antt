-- What is looked at stays so.
use Rattle.std.proofs.Common.{◌≡◌, ℕ, zero, suc, ◌<◌, Bool, true, List, [], ◌∷◌, ◌++◌, length, refl}
use Rattle.std.proofs.Common.{arith, inl, inr}
use Rattle.std.specs.Prelude.{◌⊎◌}
use Rattle.std.specs.List.{All}
use Rattle.std.proofs.Math.ListN.{set}
use Rattle.std.proofs.lemmas.List.Elements.{All-weaker}
use Rattle.dl_syntax.specs.declared.queries.Atom.{Atom}
use Rattle.dl_syntax.specs.declared.queries.Atom.TheVariants as atom
use Rattle.dl_syntax.specs.declared.queries.Cq.{Cq}
use Rattle.saturate.specs.declared.sight.Sight.{Sight}
use Rattle.saturate.specs.Sight.{IsMarked, KeepsMarks, SeesAtom, SeesQuery, SeesUnion, KeepsSight}

pub marks_push : (marks : List Bool) (mark : Bool) → KeepsMarks marks (marks ++ mark ∷ [])
marks_push [] mark k there = absurd (cc)
marks_push (m ∷ marks) mark zero there = there
marks_push (m ∷ marks) mark (suc k) there = marks_push marks mark k there

pub marks_set : (marks : List Bool) (place : ℕ) → KeepsMarks marks (set marks place true)
marks_set [] place k there = absurd (cc)
marks_set (m ∷ marks) zero zero there = refl
marks_set (m ∷ marks) zero (suc k) there = there
marks_set (m ∷ marks) (suc place) zero there = there
marks_set (m ∷ marks) (suc place) (suc k) there = marks_set marks place k there

pub set_marked : (marks : List Bool) (place : ℕ) → place < length marks
    → IsMarked (set marks place true) place
set_marked [] place within = absurd (omega arith)
set_marked (m ∷ marks) zero within = refl
set_marked (m ∷ marks) (suc place) within = set_marked marks place (omega arith)

-- marks that are kept keep what is looked at
pub sight_kept : (old new : Sight) → old.all ≡ new.all
    → KeepsMarks old.concepts.items new.concepts.items → KeepsMarks old.roles.items new.roles.items
    → KeepsSight old new
sight_kept old new same concepts roles = record {
  concepts = λ c seen. by old.concepts.items new.concepts.items c.0 concepts seen;
  roles = λ p seen. by old.roles.items new.roles.items p.0 roles seen;
}
  where
    by : (xs ys : List Bool) (k : ℕ) → KeepsMarks xs ys → (old.all ≡ true) ⊎ IsMarked xs k
        → (new.all ≡ true) ⊎ IsMarked ys k
    by xs ys k keeps (inl all) = inl (cc)
    by xs ys k keeps (inr there) = inr (keeps k there)

pub kept_same : (sight : Sight) → KeepsSight sight sight
kept_same sight = record { concepts = λ c seen. seen; roles = λ p seen. seen }

module _ (old mid new : Sight) (later : KeepsSight mid new) where
  pub kept_both : KeepsSight old mid → KeepsSight old new
  kept_both before = record {
    concepts =
        λ c seen. later.concepts c (before.concepts c seen);
    roles =
        λ p seen. later.roles p (before.roles p seen);
  }

  pub atom_kept : (a : Atom) → SeesAtom mid a → SeesAtom new a
  atom_kept (atom.Concept c x) seen = later.concepts c seen
  atom_kept (atom.Role p x y) seen = later.roles p seen

  pub body_kept : (body : List Atom) → All (SeesAtom mid) body → All (SeesAtom new) body
  body_kept body seen = All-weaker (SeesAtom mid) (SeesAtom new) atom_kept body seen

  pub union_kept : (union : List Cq) → SeesUnion mid union → SeesUnion new union
  union_kept union seen = All-weaker (SeesQuery mid) (SeesQuery new) (λ q each.
      body_kept q.body each) union seen

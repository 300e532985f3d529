use Rattle.std.proofs.Common.{◌≡◌, ◌-◌, ◌≤◌, ℕ, List, length, drop, map}
use Rattle.owl_reader.specs.Refusals.{first_of, in_role}
use Rattle.owl_documents.specs.Views.{role_seen}
use Rattle.owl_reader.proofs.refusals.in_roles.Given as goal

abbrev pub invariant-loop-place : goal.invariant-loop-place
invariant-loop-place l = record {
  within : l.place ≤ length l.roles;
  passed : (bytes : List ℕ) → first_of in_role (map (role_seen bytes) l.roles)
      ≡ first_of in_role (map (role_seen bytes) (drop l.place l.roles));
}

abbrev pub decreases-loop-place : goal.decreases-loop-place
decreases-loop-place l = length l.roles - l.place

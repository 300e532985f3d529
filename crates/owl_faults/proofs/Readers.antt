-- What a reading tells of the fronts of what it reads: what is read stays so whatever follows, what
-- stops goes on otherwise, and nothing goes on with the token at fault.
use Rattle.std.proofs.Common.{◌≡◌, ◌≤◌, ◌+◌, ℕ, zero, suc, Bool, true, false, cond, List, [], ◌∷◌}
use Rattle.std.proofs.Common.{◌++◌, Option, Some, None, Ok, Err, refl, sym, ap, subst, ◌∙◌}
use Rattle.std.proofs.Common.{arith, ◌⊎◌, inl, inr, ◌-◌}
use Rattle.std.proofs.Common.{append_assoc, append-nil}
use Rattle.std.proofs.lemmas.List.Sums.{sum_by-append}
use Rattle.owl_tokens.specs.declared.tokens.TokenKind.TheVariants as kind
use Rattle.owl_tokens.specs.Tokens.{Lexeme}
use Rattle.owl_documents.specs.Terms.{Read, ◌>>=◌, is_open, is_close, group_of}
use Rattle.owl_faults.specs.Fronts.{opened, closed, Follows}

abbrev pub Reader : Type 0 → Type 0
Reader X = List Lexeme → Read (X × List Lexeme)

abbrev pub Never : {X : Type 0} → Read X → Type 0
Never {X} r = (x : X) → r ≡ Ok x → ⊥

-- ---- how many parentheses

pub opened_append : (f g : List Lexeme) → opened (f ++ g) ≡ opened f + opened g
opened_append f g = sum_by-append (λ (t : Lexeme). cond (is_open t.kind) 1 0) f g

pub closed_append : (f g : List Lexeme) → closed (f ++ g) ≡ closed f + closed g
closed_append f g = sum_by-append (λ (t : Lexeme). cond (is_close t.kind) 1 0) f g

-- so many parentheses more are open, where any have to be
abbrev pub Within : ℕ → List Lexeme → Type 0
Within zero front = Unit {0}
Within (suc base) front = closed front + suc base ≤ opened front

-- ---- what follows

pub follows_first : (t : Lexeme) (xs ys : List Lexeme) → Follows (t ∷ xs) (t ∷ ys)
follows_first t xs ys is = go (is_open t.kind) is
  where
    go : (b : Bool) → cond {A = Option (List Lexeme)} b (Some xs) None ≡ None
        → cond {A = Option (List Lexeme)} b (Some ys) None ≡ None
    go true e = absurd cc
    go false e = refl

pub follows_under : (front xs ys : List Lexeme) → Follows xs ys
    → Follows (front ++ xs) (front ++ ys)
follows_under [] xs ys h = h
follows_under (t ∷ front) xs ys h = follows_first t (front ++ xs) (front ++ ys)

-- ---- what a reading gives

-- the value is read, and it is so whatever follows; so many parentheses more are closed
pub record Taken {X : Type 0} (k : ℕ) (p : Reader X) (tokens : List Lexeme) (x : X)
    (rest : List Lexeme) : Type 0 where
  pub front : List Lexeme
  pub parts : tokens ≡ front ++ rest
  pub level : closed front ≡ opened front + k
  pub stays : (other : List Lexeme) → Follows rest other → p (front ++ other) ≡ Ok (x, other)

-- the front goes on otherwise
pub record Live {X : Type 0} (base : ℕ) (p : Reader X) (tokens front next : List Lexeme) : Type 0
  where
    pub more : List Lexeme → List Lexeme
    pub goes_on : (rest : List Lexeme) → (x : X) × (p (front ++ more rest) ≡ Ok (x, rest))
    pub follows : (rest : List Lexeme) → Within base front → Follows next (more rest)
    pub begins : (rest : List Lexeme) → Follows tokens (front ++ more rest)

-- where so many parentheses more are to be closed, the last of them is still open
abbrev pub Deeper : ℕ → List Lexeme → Type 0
Deeper k front = (m : ℕ) → k ≤ suc m → closed front ≤ opened front + m

-- the token at the place is at fault, and nothing is read that goes on with it
pub record Refuses {X : Type 0} (base k : ℕ) (p : Reader X) (tokens : List Lexeme) (place : ℕ) :
    Type 0 where
  pub front : List Lexeme
  pub token : Lexeme
  pub behind : List Lexeme
  pub parts : tokens ≡ front ++ token ∷ behind
  pub at : token.start ≡ place
  pub deeper : Deeper k front
  pub live : Live base p tokens front (token ∷ behind)
  pub dead : (other : List Lexeme) → (token.kind ≡ kind.Word → Within base front
      → Follows behind other) → Never (p (front ++ token ∷ other))

-- the tokens end too early
pub record Cut {X : Type 0} (base k : ℕ) (p : Reader X) (tokens : List Lexeme) : Type 0 where
  pub deeper : Deeper k tokens
  pub live : Live base p tokens tokens []

abbrev pub Outcome : {X : Type 0} → ℕ → ℕ → Reader X → List Lexeme → Read (X × List Lexeme)
    → Type 0
Outcome base k p tokens (Ok found) = Taken k p tokens found.0 found.1
Outcome base k p tokens (Err (Some place)) = Refuses base k p tokens place
Outcome base k p tokens (Err None) = Cut base k p tokens

abbrev pub Good : {X : Type 0} → ℕ → ℕ → Reader X → Type 0
Good base k p = (tokens : List Lexeme) → Outcome base k p tokens (p tokens)

-- tokens that are read whatever follows
pub record Fresh {A Y : Type 0} (q : A → Reader Y) : Type 0 where
  pub more : List Lexeme → List Lexeme
  pub takes : (a : A) (rest : List Lexeme) → (y : Y) × (q a (more rest) ≡ Ok (y, rest))

-- the same, of which the first opens no group
pub record Starts {X : Type 0} (p : Reader X) : Type 0 where
  pub more : List Lexeme → List Lexeme
  pub bare : (rest : List Lexeme) → group_of (more rest) ≡ None
  pub takes : (rest : List Lexeme) → (x : X) × (p (more rest) ≡ Ok (x, rest))

pub fresh : {A Y : Type 0} (p : Reader Y) → Starts p → Fresh (λ (a : A). p)
fresh p s = record { more = s.more; takes = λ a rest. s.takes rest }

-- ---- simple outcomes

pub cut_empty : {X : Type 0} (base k : ℕ) (p : Reader X) → Starts p → Cut base k p []
cut_empty base k p s = record {
  deeper = λ m le. omega arith;
  live = record {
    more = s.more;
    goes_on = s.takes;
    follows = λ rest within none. s.bare rest;
    begins = λ rest none. s.bare rest;
  };
}

pub refused_first : {X : Type 0} (base k : ℕ) (p : Reader X) (t : Lexeme) (ts : List Lexeme)
    → Starts p
    → ((other : List Lexeme) → (t.kind ≡ kind.Word → Follows ts other) → Never (p (t ∷ other)))
    → base ≡ zero → Refuses base k p (t ∷ ts) t.start
refused_first base k p t ts s dead none = record {
  front = [];
  token = t;
  behind = ts;
  parts = refl;
  at = refl;
  deeper = λ m le. omega arith;
  live = record {
    more = s.more;
    goes_on = s.takes;
    follows = λ rest within opens. s.bare rest;
    begins = λ rest opens. s.bare rest;
  };
  dead = λ other h. dead other (λ word. h word (subst (λ (b : ℕ). Within b []) (sym none) tt));
}

-- the same, whatever follows
pub refused_always : {X : Type 0} (base k : ℕ) (p : Reader X) (t : Lexeme) (ts : List Lexeme)
    → Starts p → ((other : List Lexeme) → Never (p (t ∷ other)))
    → Refuses base k p (t ∷ ts) t.start
refused_always base k p t ts s dead = record {
  front = [];
  token = t;
  behind = ts;
  parts = refl;
  at = refl;
  deeper = λ m le. omega arith;
  live = record {
    more = s.more;
    goes_on = s.takes;
    follows = λ rest within opens. s.bare rest;
    begins = λ rest opens. s.bare rest;
  };
  dead = λ other h. dead other;
}

pub error_never : {X : Type 0} (r : Read X) (e : Option ℕ) → r ≡ Err e → Never r
error_never r e is x ok = let e : Err e ≡ Ok x = sym is ∙ ok in absurd cc

-- ---- one token

-- a reading of one token
pub record ReadsOne {X : Type 0} (k : ℕ) (p : Reader X) : Type 0 where
  pub test : Lexeme → Bool
  pub value : Lexeme → X
  pub none : p [] ≡ Err None
  pub one : (t : Lexeme) (ts : List Lexeme)
      → p (t ∷ ts) ≡ cond (test t) (Ok (value t, ts)) (Err (Some t.start))
  pub level : (t : Lexeme) → test t ≡ true → closed (t ∷ []) ≡ opened (t ∷ []) + k
  pub example : Lexeme
  pub passes : test example ≡ true
  pub bare : is_open example.kind ≡ false

module _ {X : Type 0} (base k : ℕ) (p : Reader X) (r : ReadsOne k p) where
  one_taken : (t : Lexeme) (ts : List Lexeme) → r.test t ≡ true → p (t ∷ ts) ≡ Ok (r.value t, ts)
  one_taken t ts is = r.one t ts ∙ rw is refl

  one_refused : (t : Lexeme) (ts : List Lexeme) → r.test t ≡ false → p (t ∷ ts) ≡ Err (Some t.start)
  one_refused t ts is = r.one t ts ∙ rw is refl

  pub one_starts : Starts p
  one_starts = record {
    more = λ rest. r.example ∷ rest;
    bare = λ rest. rw r.bare refl;
    takes = λ rest. (r.value r.example, one_taken r.example rest r.passes);
  }

  pub one_good : Good base k p
  one_good [] = subst (Outcome base k p []) (sym r.none) (cut_empty base k p one_starts)
  one_good (t ∷ ts) = go (r.test t) refl
    where
      go : (b : Bool) → r.test t ≡ b → Outcome base k p (t ∷ ts) (p (t ∷ ts))
      go true is = subst (Outcome base k p (t ∷ ts)) (sym (one_taken t ts is)) (record {
        front = t ∷ [];
        parts = refl;
        level = r.level t is;
        stays = λ other h. one_taken t other is;
      })
      go false is = subst (Outcome base k p (t ∷ ts)) (sym (one_refused t ts is))
          (refused_always base k p t ts one_starts (λ other. error_never (p (t ∷ other))
          (Some t.start) (one_refused t other is)))

-- ---- another value

pub bound_ok : {A B : Type 0} (r : Read A) (f : A → Read B) (a : A) → r ≡ Ok a → (r >>= f) ≡ f a
bound_ok (Ok x) f a is = let same : x ≡ a = cc in ap f same
bound_ok (Err e) f a is = absurd cc

pub bound_never : {A B : Type 0} (r : Read A) (f : A → Read B) → Never r → Never (r >>= f)
bound_never (Ok x) f never b is = absurd (never x refl)
bound_never (Err e) f never b is = absurd cc

abbrev pub changed : {X Y : Type 0} → Reader X → (X → Y) → Reader Y
changed p value tokens = p tokens >>= (λ a. Ok (value a.0, a.1))

module _ {X Y : Type 0} (base k : ℕ) (p : Reader X) (value : X → Y) where
  changed_ok : (tokens rest : List Lexeme) (x : X) → p tokens ≡ Ok (x, rest)
      → changed p value tokens ≡ Ok (value x, rest)
  changed_ok tokens rest x is =
      bound_ok (p tokens) (λ (a : X × List Lexeme). Ok (value a.0, a.1)) (x, rest) is

  changed_live : (tokens front next : List Lexeme) → Live base p tokens front next
      → Live base (changed p value) tokens front next
  changed_live tokens front next l = record {
    more = l.more;
    goes_on = λ r. let x = l.goes_on r in
        (value x.0, changed_ok (front ++ l.more r) r x.0 x.1);
    follows = l.follows;
    begins = l.begins;
  }

  pub changed_starts : Starts p → Starts (changed p value)
  changed_starts s = record {
    more = s.more;
    bare = s.bare;
    takes = λ r. let x = s.takes r in (value x.0, changed_ok (s.more r) r x.0 x.1);
  }

  pub changed_good : Good base k p → Good base k (changed p value)
  changed_good good tokens = go (p tokens) (good tokens)
    where
      go : (r : Read (X × List Lexeme)) → Outcome base k p tokens r
          → Outcome base k (changed p value) tokens (r >>= (λ a. Ok (value a.0, a.1)))
      go (Ok found) a = record {
        front = a.front;
        parts = a.parts;
        level = a.level;
        stays = λ other h. changed_ok (a.front ++ other) other found.0 (a.stays other h);
      }
      go (Err (Some place)) a = record {
        front = a.front;
        token = a.token;
        behind = a.behind;
        parts = a.parts;
        at = a.at;
        deeper = a.deeper;
        live = changed_live tokens a.front (a.token ∷ a.behind) a.live;
        dead = λ other h. bound_never (p (a.front ++ a.token ∷ other))
            (λ (c : X × List Lexeme). Ok (value c.0, c.1)) (a.dead other h);
      }
      go (Err None) a = record {
        deeper = a.deeper;
        live = changed_live tokens tokens [] a.live;
      }

-- ---- one behind the other

abbrev pub then_reads : {X Y : Type 0} → Reader X → (X → Reader Y) → Reader Y
then_reads p q tokens = p tokens >>= (λ a. q a.0 a.1)

module _ {X Y : Type 0} (base k j : ℕ) (p : Reader X) (q : X → Reader Y)
    (apart : (f g : List Lexeme) → closed f ≡ opened f + k → Within base g → Within base (f ++ g))
    (few : (1 ≤ j) ⊎ (k ≡ 0)) where
  joins : (f g : List Lexeme) → closed f ≡ opened f + k → Within base (f ++ g) → Within base g
  joins f g level within = go base within
    where
      go : (b : ℕ) → Within b (f ++ g) → Within b g
      go zero w = tt
      go (suc b) w = omega (arith, opened_append f g, closed_append f g)

  second_reads : (tokens : List Lexeme) (x : X) (rest front other : List Lexeme)
      (a : Taken k p tokens x rest) → Follows rest (front ++ other)
      → then_reads p q ((a.front ++ front) ++ other) ≡ q x (front ++ other)
  second_reads tokens x rest front other a h =
      ap (then_reads p q) (append_assoc a.front front other)
      ∙ bound_ok (p (a.front ++ (front ++ other))) (λ (c : X × List Lexeme). q c.0 c.1)
      (x, front ++ other) (a.stays (front ++ other) h)

  second_parts : (tokens : List Lexeme) (x : X) (rest front behind : List Lexeme)
      (a : Taken k p tokens x rest) → rest ≡ front ++ behind
      → tokens ≡ (a.front ++ front) ++ behind
  second_parts tokens x rest front behind a parts =
      a.parts ∙ ap (λ (ts : List Lexeme). a.front ++ ts) parts
      ∙ sym (append_assoc a.front front behind)

  second_live : (tokens : List Lexeme) (x : X) (rest front next : List Lexeme)
      (a : Taken k p tokens x rest) → Live base (q x) rest front next
      → Live base (then_reads p q) tokens (a.front ++ front) next
  second_live tokens x rest front next a b = record {
    more = b.more;
    goes_on = λ r. let y = b.goes_on r in
        (y.0, second_reads tokens x rest front (b.more r) a (b.begins r) ∙ y.1);
    follows = λ r within. b.follows r (joins a.front front a.level within);
    begins = λ r. subst (λ (ts : List Lexeme). Follows ts ((a.front ++ front) ++ b.more r))
        (sym a.parts)
        (subst (λ (ts : List Lexeme). Follows (a.front ++ rest) ts)
        (sym (append_assoc a.front front (b.more r)))
        (follows_under a.front rest (front ++ b.more r) (b.begins r)));
  }

  room : (m : ℕ) → k + j ≤ suc m → j ≤ suc (m - k)
  room m le = elim few [ inl some ↦ omega arith | inr none ↦ omega arith ]

  room_back : (m : ℕ) → k + j ≤ suc m → m - k + k ≡ m
  room_back m le = elim few [ inl some ↦ omega arith | inr none ↦ omega arith ]

  second_deeper : (f g : List Lexeme) → closed f ≡ opened f + k → Deeper j g
      → Deeper (k + j) (f ++ g)
  second_deeper f g level deeper m le =
      omega (
        arith,
        level,
        deeper (m - k) (room m le),
        room_back m le,
        opened_append f g,
        closed_append f g,
      )

  -- what is read behind the first
  then_second : (tokens : List Lexeme) (x : X) (rest : List Lexeme) (r : Read (Y × List Lexeme))
      → Taken k p tokens x rest → Outcome base j (q x) rest r
      → Outcome base (k + j) (then_reads p q) tokens r
  then_second tokens x rest (Ok found) a b = record {
    front = a.front ++ b.front;
    parts = second_parts tokens x rest b.front found.1 a b.parts;
    level = omega (
      arith,
      a.level,
      b.level,
      opened_append a.front b.front,
      closed_append a.front b.front,
    );
    stays = λ other h. second_reads tokens x rest b.front other a
        (subst (λ (ts : List Lexeme). Follows ts (b.front ++ other)) (sym b.parts)
        (follows_under b.front found.1 other h))
        ∙ b.stays other h;
  }
  then_second tokens x rest (Err (Some place)) a b = record {
    front = a.front ++ b.front;
    token = b.token;
    behind = b.behind;
    parts = second_parts tokens x rest b.front (b.token ∷ b.behind) a b.parts;
    at = b.at;
    deeper = second_deeper a.front b.front a.level b.deeper;
    live = second_live tokens x rest b.front (b.token ∷ b.behind) a b.live;
    dead = λ other h. subst Never (sym (second_reads tokens x rest b.front (b.token ∷ other) a
        (subst (λ (ts : List Lexeme). Follows ts (b.front ++ b.token ∷ other)) (sym b.parts)
        (follows_under b.front (b.token ∷ b.behind) (b.token ∷ other)
        (follows_first b.token b.behind other)))))
        (b.dead other (λ word within. h word (apart a.front b.front a.level within)));
  }
  then_second tokens x rest (Err None) a b = record {
    deeper = subst (Deeper (k + j)) (sym a.parts) (second_deeper a.front rest a.level b.deeper);
    live = subst (λ (ts : List Lexeme). Live base (then_reads p q) tokens ts []) (sym a.parts)
        (second_live tokens x rest rest [] a b.live);
  }

  -- where the first isn't read
  first_live : (tokens front next : List Lexeme) → Live base p tokens front next → Fresh q
      → Live base (then_reads p q) tokens front next
  first_live tokens front next l f = record {
    more = λ r. l.more (f.more r);
    goes_on = λ r.
        let a = l.goes_on (f.more r) in
        let y = f.takes a.0 r in (
          y.0,
          bound_ok (p (front ++ l.more (f.more r))) (λ (c : X × List Lexeme). q c.0 c.1)
              (a.0, f.more r) a.1 ∙ y.1,
        );
    follows = λ r. l.follows (f.more r);
    begins = λ r. l.begins (f.more r);
  }

  -- what is read at these tokens, where the second is known behind the first
  pub then_at : (tokens : List Lexeme) → Outcome base k p tokens (p tokens)
      → ((x : X) (rest : List Lexeme) → p tokens ≡ Ok (x, rest)
      → Outcome base j (q x) rest (q x rest)) → Fresh q
      → Outcome base (k + j) (then_reads p q) tokens (then_reads p q tokens)
  then_at tokens first second f = go (p tokens) refl first
    where
      go : (r : Read (X × List Lexeme)) → p tokens ≡ r → Outcome base k p tokens r
          → Outcome base (k + j) (then_reads p q) tokens (r >>= (λ a. q a.0 a.1))
      go (Ok found) is a = then_second tokens found.0 found.1 (q found.0 found.1) a
          (second found.0 found.1 is)
      go (Err (Some place)) is a = record {
        front = a.front;
        token = a.token;
        behind = a.behind;
        parts = a.parts;
        at = a.at;
        deeper = λ m le. a.deeper m (omega arith);
        live = first_live tokens a.front (a.token ∷ a.behind) a.live f;
        dead = λ other h. bound_never (p (a.front ++ a.token ∷ other))
            (λ (c : X × List Lexeme). q c.0 c.1) (a.dead other h);
      }
      go (Err None) is a = record {
        deeper = λ m le. a.deeper m (omega arith);
        live = first_live tokens tokens [] a.live f;
      }

  pub then_good : Good base k p → ((x : X) → Good base j (q x)) → Fresh q
      → Good base (k + j) (then_reads p q)
  then_good first second f tokens = then_at tokens (first tokens) (λ x rest is. second x rest) f

-- ---- tokens before

module _ {X : Type 0} (base inner k l : ℕ) (t : Lexeme) (us : List Lexeme) (p q : Reader X)
    (same : (xs : List Lexeme) → p ((t ∷ us) ++ xs) ≡ q xs)
    (up : (f : List Lexeme) → Deeper l f → Within inner f → Within base ((t ∷ us) ++ f))
    (down : (f : List Lexeme) → Within base ((t ∷ us) ++ f) → Within inner f)
    (level : opened (t ∷ us) + k ≡ closed (t ∷ us) + l) (some : 1 ≤ l) where
  lifted_reads : (front other : List Lexeme) → p (((t ∷ us) ++ front) ++ other) ≡ q (front ++ other)
  lifted_reads front other = ap p (append_assoc (t ∷ us) front other) ∙ same (front ++ other)

  lifted_live : (ts front next : List Lexeme) → Live inner q ts front next
      → Live base p ((t ∷ us) ++ ts) ((t ∷ us) ++ front) next
  lifted_live ts front next live = record {
    more = live.more;
    goes_on = λ r. let x = live.goes_on r in (x.0, lifted_reads front (live.more r) ∙ x.1);
    follows = λ r within. live.follows r (down front within);
    begins = λ r. follows_first t (us ++ ts) ((us ++ front) ++ live.more r);
  }

  lifted_deeper : (front : List Lexeme) → Deeper l front → Deeper k ((t ∷ us) ++ front)
  lifted_deeper front deeper m le = omega (
    arith,
    level,
    some,
    deeper (m + opened (t ∷ us) - closed (t ∷ us)) (omega (arith, level, some)),
    opened_append (t ∷ us) front,
    closed_append (t ∷ us) front,
  )

  lifted_outcome : (ts : List Lexeme) (r : Read (X × List Lexeme)) → Outcome inner l q ts r
      → Outcome base k p ((t ∷ us) ++ ts) r
  lifted_outcome ts (Ok found) a = record {
    front = (t ∷ us) ++ a.front;
    parts = ap (λ (xs : List Lexeme). (t ∷ us) ++ xs) a.parts
        ∙ sym (append_assoc (t ∷ us) a.front found.1);
    level = omega (
      arith,
      level,
      a.level,
      opened_append (t ∷ us) a.front,
      closed_append (t ∷ us) a.front,
    );
    stays = λ other h. lifted_reads a.front other ∙ a.stays other h;
  }
  lifted_outcome ts (Err (Some place)) a = record {
    front = (t ∷ us) ++ a.front;
    token = a.token;
    behind = a.behind;
    parts = ap (λ (xs : List Lexeme). (t ∷ us) ++ xs) a.parts
        ∙ sym (append_assoc (t ∷ us) a.front (a.token ∷ a.behind));
    at = a.at;
    deeper = lifted_deeper a.front a.deeper;
    live = lifted_live ts a.front (a.token ∷ a.behind) a.live;
    dead = λ other h. subst Never (sym (lifted_reads a.front (a.token ∷ other)))
        (a.dead other (λ word within. h word (up a.front a.deeper within)));
  }
  lifted_outcome ts (Err None) a = record {
    deeper = lifted_deeper ts a.deeper;
    live = lifted_live ts ts [] a.live;
  }

  pub lifted : (ts : List Lexeme) → Outcome inner l q ts (q ts)
      → Outcome base k p ((t ∷ us) ++ ts) (p ((t ∷ us) ++ ts))
  lifted ts a = subst (Outcome base k p ((t ∷ us) ++ ts)) (sym (same ts))
      (lifted_outcome ts (q ts) a)

-- ---- readings that agree behind a first token

pub agreed : {X : Type 0} (base k : ℕ) (p q : Reader X) → ((tokens : List Lexeme)
    → p tokens ≡ q tokens) → Good base k p → Good base k q
agreed {X} base k p q same good tokens = go (p tokens) (good tokens) (same tokens)
  where
    live : (front next : List Lexeme) → Live base p tokens front next
        → Live base q tokens front next
    live front next l = record {
      more = l.more;
      goes_on = λ r. let x = l.goes_on r in (x.0, sym (same (front ++ l.more r)) ∙ x.1);
      follows = l.follows;
      begins = l.begins;
    }

    outcome : (r : Read (X × List Lexeme)) → Outcome base k p tokens r
        → Outcome base k q tokens r
    outcome (Ok found) a = record {
      front = a.front;
      parts = a.parts;
      level = a.level;
      stays = λ other h. sym (same (a.front ++ other)) ∙ a.stays other h;
    }
    outcome (Err (Some place)) a = record {
      front = a.front;
      token = a.token;
      behind = a.behind;
      parts = a.parts;
      at = a.at;
      deeper = a.deeper;
      live = live a.front (a.token ∷ a.behind) a.live;
      dead = λ other h. subst Never (same (a.front ++ a.token ∷ other)) (a.dead other h);
    }
    outcome (Err None) a = record { deeper = a.deeper; live = live tokens [] a.live }

    go : (r : Read (X × List Lexeme)) → Outcome base k p tokens r → r ≡ q tokens
        → Outcome base k q tokens (q tokens)
    go r a is = subst (Outcome base k q tokens) is (outcome r a)

module _ {X : Type 0} (base k : ℕ) (p q : Reader X) (t : Lexeme) (ts : List Lexeme)
    (same : (xs : List Lexeme) → (base ≡ zero → t.kind ≡ kind.Word → Follows ts xs)
    → p (t ∷ xs) ≡ q (t ∷ xs)) (starts : Starts p) (none : q [] ≡ Err None) where
  -- behind a front that isn't empty
  swapped_reads : (front next other : List Lexeme) → t ∷ ts ≡ front ++ next
      → (base ≡ zero → Follows next other) → (front ≡ [] → ⊥)
      → p (front ++ other) ≡ q (front ++ other)
  swapped_reads [] next other parts h some = absurd (some refl)
  swapped_reads (u ∷ front) next other parts h some =
      let one : t ≡ u = cc in
      let others : ts ≡ front ++ next = cc in
      subst (λ (v : Lexeme). p (v ∷ (front ++ other)) ≡ q (v ∷ (front ++ other))) one
      (same (front ++ other) (λ zero_base word. subst
      (λ (xs : List Lexeme). Follows xs (front ++ other)) (sym others)
      (follows_under front next other (h zero_base))))

  not_empty : (front rest : List Lexeme) (x : X) → ((other : List Lexeme) → Follows rest other
      → q (front ++ other) ≡ Ok (x, other)) → front ≡ [] → ⊥
  not_empty [] rest x stays is =
      error_never (q []) None none (x, []) (stays [] (λ h. refl))
  not_empty (u ∷ front) rest x stays is = absurd cc

  within_zero : (front : List Lexeme) → base ≡ zero → Within base front
  within_zero front is = subst (λ (b : ℕ). Within b front) (sym is) tt

  swapped_live : (front next : List Lexeme) → t ∷ ts ≡ front ++ next
      → Live base q (t ∷ ts) front next → Live base p (t ∷ ts) front next
  swapped_live [] next parts l = record {
    more = starts.more;
    goes_on = starts.takes;
    follows = λ r within opens. starts.bare r;
    begins = λ r opens. starts.bare r;
  }
  swapped_live (u ∷ front) next parts l = record {
    more = l.more;
    goes_on = λ r. let x = l.goes_on r in (
      x.0,
      swapped_reads (u ∷ front) next (l.more r) parts
          (λ is. l.follows r (within_zero (u ∷ front) is)) (λ empty. absurd cc) ∙ x.1,
    );
    follows = l.follows;
    begins = l.begins;
  }

  swapped_dead : (front behind : List Lexeme) (token : Lexeme) → t ∷ ts ≡ front ++ token ∷ behind
      → ((other : List Lexeme) → (token.kind ≡ kind.Word → Within base front
      → Follows behind other) → Never (q (front ++ token ∷ other)))
      → (other : List Lexeme) → (token.kind ≡ kind.Word → Within base front
      → Follows behind other) → Never (p (front ++ token ∷ other))
  swapped_dead [] behind token parts dead other h =
      let one : t ≡ token = cc in
      let others : ts ≡ behind = cc in
      subst Never (sym (subst (λ (v : Lexeme). p (v ∷ other) ≡ q (v ∷ other)) one
      (same other (λ zero_base word. subst (λ (xs : List Lexeme). Follows xs other) (sym others)
      (h (subst (λ (v : Lexeme). v.kind ≡ kind.Word) one word) (within_zero [] zero_base))))))
      (dead other h)
  swapped_dead (u ∷ front) behind token parts dead other h =
      subst Never (sym (swapped_reads (u ∷ front) (token ∷ behind) (token ∷ other) parts
      (λ zero_base. follows_first token behind other) (λ empty. absurd cc))) (dead other h)

  swapped_outcome : (r : Read (X × List Lexeme)) → Outcome base k q (t ∷ ts) r
      → Outcome base k p (t ∷ ts) r
  swapped_outcome (Ok found) a = record {
    front = a.front;
    parts = a.parts;
    level = a.level;
    stays = λ other h. swapped_reads a.front found.1 other a.parts (λ is. h)
        (not_empty a.front found.1 found.0 a.stays) ∙ a.stays other h;
  }
  swapped_outcome (Err (Some place)) a = record {
    front = a.front;
    token = a.token;
    behind = a.behind;
    parts = a.parts;
    at = a.at;
    deeper = a.deeper;
    live = swapped_live a.front (a.token ∷ a.behind) a.parts a.live;
    dead = swapped_dead a.front a.behind a.token a.parts a.dead;
  }
  swapped_outcome (Err None) a = record {
    deeper = a.deeper;
    live = swapped_live (t ∷ ts) [] (sym (append-nil (t ∷ ts))) a.live;
  }

  pub swapped : Outcome base k q (t ∷ ts) (q (t ∷ ts)) → Outcome base k p (t ∷ ts) (p (t ∷ ts))
  swapped a = subst (Outcome base k p (t ∷ ts)) (sym (same ts (λ is word h. h)))
      (swapped_outcome (q (t ∷ ts)) a)

-- ---- readings that begin so

pub starts_then : {X Y : Type 0} (p : Reader X) (q : X → Reader Y) → Starts p → Fresh q
    → Starts (then_reads p q)
starts_then {X} {Y} p q s f = record {
  more = λ r. s.more (f.more r);
  bare = λ r. s.bare (f.more r);
  takes = λ r.
      let x = s.takes (f.more r) in
      let y = f.takes x.0 r in (
        y.0,
        bound_ok (p (s.more (f.more r))) (λ (c : X × List Lexeme). q c.0 c.1) (x.0, f.more r) x.1
            ∙ y.1,
      );
}

pub fresh_then : {A X Y : Type 0} (p : Reader X) (q : A → X → Reader Y) → Starts p
    → Fresh (λ (c : A × X). q c.0 c.1) → Fresh (λ (a : A). then_reads p (q a))
fresh_then {A} {X} {Y} p q s f = record {
  more = λ r. s.more (f.more r);
  takes = λ a r.
      let x = s.takes (f.more r) in
      let y = f.takes (a, x.0) r in (
        y.0,
        bound_ok (p (s.more (f.more r))) (λ (c : X × List Lexeme). q a c.0 c.1) (x.0, f.more r)
            x.1 ∙ y.1,
      );
}

-- in an item
pub then_inner : {X Y : Type 0} (k j : ℕ) (p : Reader X) (q : X → Reader Y) → 1 ≤ j → Good 0 k p
    → ((x : X) → Good 0 j (q x)) → Fresh q → Good 0 (k + j) (then_reads p q)
then_inner k j p q some first second f =
    then_good 0 k j p q (λ g h level within. tt) (inl some) first second f

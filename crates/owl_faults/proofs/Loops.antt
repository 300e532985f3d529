-- What is read one after the other, and a group behind the word that heads it: their fronts.
use Rattle.std.proofs.Common.{◌≡◌, ◌≤◌, ◌<◌, ◌+◌, ℕ, zero, suc, Bool, true, false, cond}
use Rattle.std.proofs.Common.{List, [], ◌∷◌, ◌++◌, length, Some, None, Ok, Err, refl, sym, ap}
use Rattle.std.proofs.Common.{subst, ◌∙◌, ◌⊎◌, inl, inr, arith, length-append}
use Rattle.owl_tokens.specs.declared.tokens.TokenKind.{TokenKind}
use Rattle.owl_tokens.specs.declared.tokens.TokenKind.TheVariants as kind
use Rattle.owl_tokens.specs.Tokens.{Lexeme}
use Rattle.owl_documents.specs.Terms.{Read, ◌>>=◌, is_open, is_close, open_first, group_of}
use Rattle.owl_documents.specs.Items.{many, closes}
use Rattle.owl_faults.specs.Fronts.{opened, closed, Follows}
use Rattle.owl_faults.proofs.Readers.{Reader, Within, Deeper, Taken, Live, Outcome, Good}
use Rattle.owl_faults.proofs.Readers.{Starts, cut_empty, refused_always, error_never}
use Rattle.owl_faults.proofs.Readers.{then_reads, then_at, lifted, swapped, follows_first}
use Rattle.owl_faults.proofs.Readers.{opened_append, closed_append}

-- what is behind equally many parentheses is as deep
pub as_deep : (base : ℕ) (f g : List Lexeme) → closed f ≡ opened f + 0 → Within base g
    → Within base (f ++ g)
as_deep zero f g level within = tt
as_deep (suc base) f g level within = omega (arith, opened_append f g, closed_append f g)

-- a reading that needs tokens takes some
pub takes_some : {X : Type 0} (k : ℕ) (p : Reader X) (tokens rest : List Lexeme) (x : X)
    → p [] ≡ Err None → Taken k p tokens x rest → length rest < length tokens
takes_some k p tokens rest x none taken = go taken.front taken.parts taken.stays
  where
    go : (front : List Lexeme) → tokens ≡ front ++ rest
        → ((other : List Lexeme) → Follows rest other → p (front ++ other) ≡ Ok (x, other))
        → length rest < length tokens
    go [] parts stays =
        absurd (error_never (p []) None none (x, []) (stays [] (λ h. refl)))
    go (t ∷ front) parts stays = omega (arith, ap length parts, length-append front rest)

-- ---- one after the other

module _ {X : Type 0} (ends : List Lexeme → Bool) (one : Reader X) (base : ℕ)
    (one_good : Good base 0 one) (one_none : one [] ≡ Err None) (goes_on : ends [] ≡ false)
    (by_first : (t : Lexeme) (xs ys : List Lexeme) → ends (t ∷ xs) ≡ ends (t ∷ ys)) where
  shorter : (tokens rest : List Lexeme) (x : X) → one tokens ≡ Ok (x, rest)
      → length rest < length tokens
  shorter tokens rest x is =
      takes_some 0 one tokens rest x one_none
      (subst (Outcome base 0 one tokens) is (one_good tokens))

  many_empty : (n : ℕ) → many ends one n [] ≡ Err None
  unfolding many
  many_empty zero = refl
  many_empty (suc n) = rw goes_on (rw one_none refl)

  -- enough is enough
  many_enough : (m n : ℕ) (tokens : List Lexeme) → length tokens ≤ m → length tokens ≤ n
      → many ends one m tokens ≡ many ends one n tokens
  unfolding many
  many_enough m n [] le also = many_empty m ∙ sym (many_empty n)
  many_enough zero n (t ∷ ts) le also = absurd (omega arith)
  many_enough (suc m) zero (t ∷ ts) le also = absurd (omega arith)
  many_enough (suc m) (suc n) (t ∷ ts) le also =
      go (one (t ∷ ts)) refl (λ rest l a. many_enough m n rest l a)
    where
      go : (r : Read (X × List Lexeme)) → one (t ∷ ts) ≡ r
          → ((rest : List Lexeme) → length rest ≤ m → length rest ≤ n
          → many ends one m rest ≡ many ends one n rest)
          → cond {A = Read (List X × List Lexeme)} (ends (t ∷ ts)) (Ok ([], t ∷ ts))
          (r >>= (λ first. many ends one m first.1 >>= (λ later.
          Ok (first.0 ∷ later.0, later.1))))
          ≡ cond {A = Read (List X × List Lexeme)} (ends (t ∷ ts)) (Ok ([], t ∷ ts))
          (r >>= (λ first. many ends one n first.1 >>= (λ later.
          Ok (first.0 ∷ later.0, later.1))))
      go (Ok first) is more =
          let lt = shorter (t ∷ ts) first.1 first.0 is in
          rw (more first.1 (omega (arith, lt)) (omega (arith, lt))) refl
      go (Err e) is more = refl

  module _ {Y : Type 0} where
    abbrev pub loop : (List X → Reader Y) → Reader Y
    loop k tokens = many ends one (length tokens) tokens >>= (λ found. k found.0 found.1)

    loop_none : (k : List X → Reader Y) → loop k [] ≡ Err None
    unfolding many
    loop_none k = refl

    pub loop_ends : (k : List X → Reader Y) (tokens : List Lexeme) → ends tokens ≡ true
        → loop k tokens ≡ k [] tokens
    unfolding many
    loop_ends k [] is = let no : true ≡ false = sym is ∙ goes_on in absurd cc
    loop_ends k (t ∷ ts) is =
        rw (many_enough (length (t ∷ ts)) (suc (length ts)) (t ∷ ts) (omega arith) (omega arith))
        (rw is refl)

    pub loop_more : (k : List X → Reader Y) (tokens : List Lexeme) → ends tokens ≡ false
        → loop k tokens ≡ then_reads one (λ x. loop (λ xs. k (x ∷ xs))) tokens
    unfolding many
    loop_more k [] is = rw one_none refl
    loop_more k (t ∷ ts) is =
        rw (many_enough (length (t ∷ ts)) (suc (length ts)) (t ∷ ts) (omega arith) (omega arith))
        (rw is (go (one (t ∷ ts)) refl))
      where
        last : (x : X) (r : Read (List X × List Lexeme))
            → ((r >>= (λ later. (let out : Read (List X × List Lexeme) =
            Ok (x ∷ later.0, later.1) in out))) >>= (λ found. k found.0 found.1))
            ≡ (r >>= (λ found. k (x ∷ found.0) found.1))
        last x (Ok found) = refl
        last x (Err e) = refl

        go : (r : Read (X × List Lexeme)) → one (t ∷ ts) ≡ r
            → ((r >>= (λ first. many ends one (length ts) first.1 >>= (λ later.
            (let out : Read (List X × List Lexeme) = Ok (first.0 ∷ later.0, later.1) in out))))
            >>= (λ found. k found.0 found.1))
            ≡ (r >>= (λ first. loop (λ xs. k (first.0 ∷ xs)) first.1))
        go (Ok first) is =
            let lt = shorter (t ∷ ts) first.1 first.0 is in
            rw (many_enough (length ts) (length first.1) first.1 (omega (arith, lt)) (omega arith))
            (last first.0 (many ends one (length first.1) first.1))
        go (Err e) is = refl

    -- how a loop ends
    pub record Ends (j : ℕ) (k : List X → Reader Y) : Type 0 where
      pub more : List Lexeme → List Lexeme
      pub bare : (rest : List Lexeme) → group_of (more rest) ≡ None
      pub takes : (xs : List X) (rest : List Lexeme)
          → (y : Y) × (loop (λ ys. k (xs ++ ys)) (more rest) ≡ Ok (y, rest))
      pub at_end : (xs : List X) (t : Lexeme) (ts : List Lexeme) → ends (t ∷ ts) ≡ true
          → Outcome base j (loop (λ ys. k (xs ++ ys))) (t ∷ ts)
          (loop (λ ys. k (xs ++ ys)) (t ∷ ts))

    pub loop_starts : (j : ℕ) (k : List X → Reader Y) → Ends j k → Starts (loop k)
    loop_starts j k e = record { more = e.more; bare = e.bare; takes = e.takes [] }

    behind_one : (j : ℕ) (k : List X → Reader Y) (x : X) → Ends j k → Ends j (λ xs. k (x ∷ xs))
    behind_one j k x e = record {
      more = e.more;
      bare = e.bare;
      takes = λ xs. e.takes (x ∷ xs);
      at_end = λ xs. e.at_end (x ∷ xs);
    }

    loop_at : (j n : ℕ) (tokens : List Lexeme) → length tokens ≤ n → (k : List X → Reader Y)
        → Ends j k → Outcome base j (loop k) tokens (loop k tokens)
    loop_at j n [] le k e = subst (Outcome base j (loop k) []) (sym (loop_none k))
        (cut_empty base j (loop k) (loop_starts j k e))
    loop_at j zero (t ∷ ts) le k e = absurd (omega arith)
    loop_at j (suc n) (t ∷ ts) le k e =
        go (ends (t ∷ ts)) refl (λ rest l m f. loop_at j n rest l m f)
      where
        go : (b : Bool) → ends (t ∷ ts) ≡ b
            → ((rest : List Lexeme) → length rest ≤ n → (m : List X → Reader Y) → Ends j m
            → Outcome base j (loop m) rest (loop m rest))
            → Outcome base j (loop k) (t ∷ ts) (loop k (t ∷ ts))
        go true is more = e.at_end [] t ts is
        go false is more =
            let next : Reader Y = then_reads one (λ x. loop (λ xs. k (x ∷ xs))) in
            let none : next [] ≡ Err None = rw one_none refl in
            let same : 0 + j ≡ j = omega arith in
            swapped base j (loop k) next t ts (λ xs h.
            loop_more k (t ∷ xs) (by_first t xs ts ∙ is)) (loop_starts j k e) none
            (subst (λ (m : ℕ). Outcome base m next (t ∷ ts) (next (t ∷ ts))) same
            (then_at base 0 j one (λ x. loop (λ xs. k (x ∷ xs))) (as_deep base) (inr refl)
            (t ∷ ts) (one_good (t ∷ ts)) (λ x rest read. more rest
            (omega (arith, shorter (t ∷ ts) rest x read)) (λ xs. k (x ∷ xs)) (behind_one j k x e))
            (record { more = e.more; takes = λ x rest. e.takes (x ∷ []) rest })))

    pub loop_good : (j : ℕ) (k : List X → Reader Y) → Ends j k → Good base j (loop k)
    loop_good j k e tokens = loop_at j (length tokens) tokens (omega arith) k e

-- ---- up to a closing parenthesis

closes_level : (t : Lexeme) → is_close t.kind ≡ true → closed (t ∷ []) ≡ opened (t ∷ []) + 1
closes_level t closes = go t.kind refl closes
  where
    go : (k : TokenKind) → t.kind ≡ k → is_close k ≡ true
        → closed (t ∷ []) ≡ opened (t ∷ []) + 1
    go kind.Close is e = rw is refl
    go _ is e = absurd cc

module _ {X Y : Type 0} (one : Reader X) (base : ℕ) (one_good : Good base 0 one)
    (one_none : one [] ≡ Err None) where
  abbrev pub closed_loop : (List X → Reader Y) → Reader Y
  closed_loop k = loop closes one base one_good one_none refl (λ t xs ys. refl) {Y = Y} k

  -- what is read at the closing parenthesis, or is at fault there
  abbrev pub AtClose : (List X → Reader Y) → Type 0
  AtClose k = (xs : List X) (c : Lexeme) → is_close c.kind ≡ true
      → ((y : Y) × ((behind : List Lexeme) → k xs (c ∷ behind) ≡ Ok (y, behind)))
      ⊎ ((behind : List Lexeme) → k xs (c ∷ behind) ≡ Err (Some c.start))

  pub closed_reads : (k : List X → Reader Y) (c : Lexeme) (ts : List Lexeme)
      → is_close c.kind ≡ true → closed_loop k (c ∷ ts) ≡ k [] (c ∷ ts)
  closed_reads k c ts is =
      loop_ends closes one base one_good one_none refl (λ t xs ys. refl) {Y = Y} k (c ∷ ts) is

  pub closed_more : (k : List X → Reader Y) (tokens : List Lexeme) → closes tokens ≡ false
      → closed_loop k tokens ≡ then_reads one (λ x. closed_loop (λ xs. k (x ∷ xs))) tokens
  closed_more k tokens is =
      loop_more closes one base one_good one_none refl (λ t xs ys. refl) {Y = Y} k tokens is

  closed_end : (k : List X → Reader Y) → Starts (closed_loop k) → (c : Lexeme)
      (ts : List Lexeme) → is_close c.kind ≡ true
      → (((y : Y) × ((behind : List Lexeme) → k [] (c ∷ behind) ≡ Ok (y, behind)))
      ⊎ ((behind : List Lexeme) → k [] (c ∷ behind) ≡ Err (Some c.start)))
      → Outcome base 1 (closed_loop k) (c ∷ ts) (closed_loop k (c ∷ ts))
  closed_end k starts c ts is (inl read) =
      subst (Outcome base 1 (closed_loop k) (c ∷ ts))
      (sym (closed_reads k c ts is ∙ read.1 ts)) (record {
        front = c ∷ [];
        parts = refl;
        level = closes_level c is;
        stays = λ other h. closed_reads k c other is ∙ read.1 other;
      })
  closed_end k starts c ts is (inr refused) =
      subst (Outcome base 1 (closed_loop k) (c ∷ ts))
      (sym (closed_reads k c ts is ∙ refused ts))
      (refused_always base 1 (closed_loop k) c ts starts (λ other.
      error_never (closed_loop k (c ∷ other)) (Some c.start)
      (closed_reads k c other is ∙ refused other)))

  pub closed_good : (k : List X → Reader Y) (more : List Lexeme → List Lexeme)
      → ((rest : List Lexeme) → group_of (more rest) ≡ None)
      → ((xs : List X) (rest : List Lexeme)
      → (y : Y) × (closed_loop (λ ys. k (xs ++ ys)) (more rest) ≡ Ok (y, rest)))
      → AtClose k → Good base 1 (closed_loop k)
  closed_good k more bare takes at_close =
      loop_good closes one base one_good one_none refl (λ t xs ys. refl) {Y = Y} 1 k (record {
        more = more;
        bare = bare;
        takes = takes;
        at_end = λ xs t ts is. closed_end (λ ys. k (xs ++ ys))
            (record { more = more; bare = bare; takes = takes xs }) t ts is (again xs t is);
      })
    where
      again : (xs : List X) (c : Lexeme) → is_close c.kind ≡ true
          → ((y : Y) × ((behind : List Lexeme) → k (xs ++ []) (c ∷ behind) ≡ Ok (y, behind)))
          ⊎ ((behind : List Lexeme) → k (xs ++ []) (c ∷ behind) ≡ Err (Some c.start))
      again xs c is = at_close (xs ++ []) c is

-- ---- a group behind the word that heads it

abbrev pub open_mark : Lexeme
open_mark = record { kind = kind.Open; text = []; start = 0 }

-- a word that passes the test heads a group that is read so
pub record Headed {X : Type 0} (inner : ℕ) (p : Reader X) : Type 0 where
  pub test : Lexeme → Bool
  pub word : (t : Lexeme) → test t ≡ true → t.kind ≡ kind.Word
  pub inside : Lexeme → Reader X
  pub none : p [] ≡ Err None
  pub reads : (t : Lexeme) (xs : List Lexeme) → test t ≡ true
      → p (t ∷ xs) ≡ (open_first xs >>= inside t)
  pub refuses : (t : Lexeme) (xs : List Lexeme) → test t ≡ false
      → p (t ∷ xs) ≡ Err (Some t.start)
  pub good : (t : Lexeme) → Good inner 1 (inside t)
  pub starts : (t : Lexeme) → Starts (inside t)
  pub example : Lexeme
  pub passes : test example ≡ true

module _ {X : Type 0} (inner : ℕ) (p : Reader X) (h : Headed inner p) where
  headed_opened : (t o : Lexeme) (xs : List Lexeme) → h.test t ≡ true → o.kind ≡ kind.Open
      → p (t ∷ o ∷ xs) ≡ h.inside t xs
  headed_opened t o xs is opens = h.reads t (o ∷ xs) is ∙ rw opens refl

  pub headed_starts : Starts p
  headed_starts = record {
    more = λ rest. h.example ∷ open_mark ∷ (h.starts h.example).more rest;
    bare = λ rest. rw (h.word h.example h.passes) refl;
    takes = λ rest.
        let x = (h.starts h.example).takes rest in (
          x.0,
          headed_opened h.example open_mark ((h.starts h.example).more rest) h.passes refl ∙ x.1,
        );
  }

  -- behind the word alone
  word_live : (t : Lexeme) (next : List Lexeme) → h.test t ≡ true
      → Live (suc inner) p (t ∷ next) (t ∷ []) next
  word_live t next is = record {
    more = λ rest. open_mark ∷ (h.starts t).more rest;
    goes_on = λ rest.
        let x = (h.starts t).takes rest in
        (x.0, headed_opened t open_mark ((h.starts t).more rest) is refl ∙ x.1);
    follows = λ rest within.
        let none : opened (t ∷ []) ≡ 0 = rw (h.word t is) refl in absurd (omega (arith, none));
    begins = λ rest. follows_first t next (open_mark ∷ (h.starts t).more rest);
  }

  headed_level : (t o : Lexeme) → h.test t ≡ true → o.kind ≡ kind.Open
      → (opened (t ∷ o ∷ []) ≡ 1) × (closed (t ∷ o ∷ []) ≡ 0)
  headed_level t o is opens = (rw (h.word t is) (rw opens refl), rw (h.word t is) (rw opens refl))

  headed_deep : (t o : Lexeme) (ts : List Lexeme) → h.test t ≡ true → o.kind ≡ kind.Open
      → Outcome (suc inner) 0 p (t ∷ o ∷ ts) (p (t ∷ o ∷ ts))
  headed_deep t o ts is opens =
      lifted (suc inner) inner 0 1 t (o ∷ []) p (h.inside t) (λ xs. headed_opened t o xs is opens)
      (λ f deeper within. up inner f deeper within) (λ f within. down inner f within)
      (omega (arith, (headed_level t o is opens).0, (headed_level t o is opens).1)) (omega arith)
      ts (h.good t ts)
    where
      up : (i : ℕ) (f : List Lexeme) → Deeper 1 f → Within i f
          → closed ((t ∷ o ∷ []) ++ f) + suc i ≤ opened ((t ∷ o ∷ []) ++ f)
      up zero f deeper within =
          omega (
            arith,
            deeper 0 (omega arith),
            (headed_level t o is opens).0,
            (headed_level t o is opens).1,
            opened_append (t ∷ o ∷ []) f,
            closed_append (t ∷ o ∷ []) f,
          )
      up (suc i) f deeper within =
          omega (
            arith,
            (headed_level t o is opens).0,
            (headed_level t o is opens).1,
            opened_append (t ∷ o ∷ []) f,
            closed_append (t ∷ o ∷ []) f,
          )

      down : (i : ℕ) (f : List Lexeme)
          → closed ((t ∷ o ∷ []) ++ f) + suc i ≤ opened ((t ∷ o ∷ []) ++ f) → Within i f
      down zero f within = tt
      down (suc i) f within =
          omega (
            arith,
            (headed_level t o is opens).0,
            (headed_level t o is opens).1,
            opened_append (t ∷ o ∷ []) f,
            closed_append (t ∷ o ∷ []) f,
          )

  -- no parenthesis behind the word
  headed_wanted : (t o : Lexeme) (ts : List Lexeme) → h.test t ≡ true → is_open o.kind ≡ false
      → Outcome (suc inner) 0 p (t ∷ o ∷ ts) (p (t ∷ o ∷ ts))
  headed_wanted t o ts is other =
      subst (Outcome (suc inner) 0 p (t ∷ o ∷ ts)) (sym (reads ts)) (record {
        front = t ∷ [];
        token = o;
        behind = ts;
        parts = refl;
        at = refl;
        deeper = λ m le. omega (arith, level);
        live = word_live t (o ∷ ts) is;
        dead = λ xs f. error_never (p (t ∷ o ∷ xs)) (Some o.start) (reads xs);
      })
    where
      level : closed (t ∷ []) ≡ 0
      level = rw (h.word t is) refl

      reads : (xs : List Lexeme) → p (t ∷ o ∷ xs) ≡ Err (Some o.start)
      reads xs = h.reads t (o ∷ xs) is ∙ rw other refl

  pub headed_good : Good (suc inner) 0 p
  headed_good [] = subst (Outcome (suc inner) 0 p []) (sym h.none)
      (cut_empty (suc inner) 0 p headed_starts)
  headed_good (t ∷ ts) = go (h.test t) refl
    where
      wordless : h.test t ≡ true → closed (t ∷ []) ≡ 0
      wordless is = rw (h.word t is) refl

      open_kind : (k : TokenKind) → is_open k ≡ true → k ≡ kind.Open
      open_kind kind.Open e = refl
      open_kind _ e = absurd cc

      marked : (xs : List Lexeme) → h.test t ≡ true
          → Outcome (suc inner) 0 p (t ∷ xs) (p (t ∷ xs))
      marked [] is = subst (Outcome (suc inner) 0 p (t ∷ [])) (sym (h.reads t [] is)) (record {
        deeper = λ m le. omega (arith, wordless is);
        live = word_live t [] is;
      })
      marked (o ∷ xs) is = elim_open (is_open o.kind) refl
        where
          elim_open : (b : Bool) → is_open o.kind ≡ b
              → Outcome (suc inner) 0 p (t ∷ o ∷ xs) (p (t ∷ o ∷ xs))
          elim_open true e = headed_deep t o xs is (open_kind o.kind e)
          elim_open false e = headed_wanted t o xs is e

      go : (b : Bool) → h.test t ≡ b → Outcome (suc inner) 0 p (t ∷ ts) (p (t ∷ ts))
      go true is = marked ts is
      go false is = subst (Outcome (suc inner) 0 p (t ∷ ts)) (sym (h.refuses t ts is))
          (refused_always (suc inner) 0 p t ts headed_starts (λ other.
          error_never (p (t ∷ other)) (Some t.start) (h.refuses t other is)))

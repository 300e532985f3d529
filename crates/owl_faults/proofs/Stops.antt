-- Tokens stop being a document exactly at the first that no document goes on with.
use Rattle.std.proofs.Common.{◌≡◌, ℕ, List, [], ◌∷◌, ◌++◌, Option}
use Rattle.std.proofs.Common.{Some, None, Ok, Err, refl, sym, ap, subst, ◌∙◌, ◌⊎◌, inl, inr}
use Rattle.std.proofs.Common.{arith, append_assoc, append-nil}
use Rattle.owl_tokens.specs.declared.tokens.TokenKind.TheVariants as kind
use Rattle.owl_tokens.specs.Tokens.{Lexeme}
use Rattle.owl_documents.specs.Terms.{Read}
use Rattle.owl_documents.specs.Documents.{Document, at_end, document_read}
use Rattle.owl_grammar.specs.Grammar.{IsDocument}
use Rattle.owl_grammar.proofs.Documents.{document_written, document_is_read}
use Rattle.owl_faults.specs.Fronts.{opened, closed, InItem, EndsInWord, Follows, GoesOn}
use Rattle.owl_faults.specs.Fronts.{RefusedAt, CutOff, FirstRefused}
use Rattle.owl_faults.specs.Laws.{StopsWhereRefused, StopsOnce}
use Rattle.owl_faults.proofs.Readers.{Never, Taken, Live, Refuses, Outcome, bound_ok}
use Rattle.owl_faults.proofs.Readers.{bound_never, follows_first, opened_append}
use Rattle.owl_faults.proofs.Readers.{closed_append, error_never}
use Rattle.owl_faults.proofs.DocumentFronts.{document, document_good, document_same}

abbrev whole : Document × List Lexeme → Read Document
whole found = at_end found.0 found.1

read_whole : (tokens rest : List Lexeme) (d : Document) → document tokens ≡ Ok (d, rest)
    → document_read tokens ≡ at_end d rest
read_whole tokens rest d is =
    document_same tokens ∙ bound_ok (document tokens) whole (d, rest) is

never_document : (tokens : List Lexeme) → Never (document tokens) → (d : Document)
    → ¬ IsDocument tokens d
never_document tokens never d is =
    bound_never (document tokens) whole never d
    (sym (document_same tokens) ∙ document_is_read tokens d is)

-- a document goes on from a front that is live
live_goes_on : (tokens front behind : List Lexeme) → Live 2 document tokens front behind
    → GoesOn front behind
live_goes_on tokens front behind live =
    let x = live.goes_on [] in
    record {
      rest = live.more [];
      document = x.0;
      is = document_written (front ++ live.more []) x.0
          (read_whole (front ++ live.more []) [] x.0 x.1);
      heads = λ ends within. live.follows [] within;
    }

in_item_before : (front : List Lexeme) (t : Lexeme) → t.kind ≡ kind.Word → InItem front
    → InItem (front ++ t ∷ [])
in_item_before front t word within =
    let opens : opened (t ∷ []) ≡ 0 = rw word refl in
    let closes : closed (t ∷ []) ≡ 0 = rw word refl in
    omega (arith, opens, closes, opened_append front (t ∷ []), closed_append front (t ∷ []))

refused_stops : (tokens : List Lexeme) (place : ℕ) → Refuses 2 0 document tokens place
    → RefusedAt tokens place
refused_stops tokens place r = record {
  front = r.front;
  token = r.token;
  behind = r.behind;
  parts = r.parts;
  at = r.at;
  before = live_goes_on tokens r.front (r.token ∷ r.behind) r.live;
  refused = λ goes_on.
      never_document (r.front ++ r.token ∷ goes_on.rest)
      (r.dead goes_on.rest (λ word within. goes_on.heads
      (record { before = r.front; word = r.token; ends = refl; is_word = word })
      (in_item_before r.front r.token word within))) goes_on.document
      (subst (λ (ts : List Lexeme). IsDocument ts goes_on.document)
      (append_assoc r.front (r.token ∷ []) goes_on.rest) goes_on.is);
}

-- something stands behind a document
behind_document : (tokens : List Lexeme) (d : Document) (t : Lexeme) (ts : List Lexeme)
    → Taken 0 document tokens d (t ∷ ts) → RefusedAt tokens t.start
behind_document tokens d t ts taken = record {
  front = taken.front;
  token = t;
  behind = ts;
  parts = taken.parts;
  at = refl;
  before = record {
    rest = [];
    document = d;
    is = document_written (taken.front ++ []) d
        (read_whole (taken.front ++ []) [] d (taken.stays [] (λ h. refl)));
    heads = λ ends within h. refl;
  };
  refused = λ goes_on.
      let all : List Lexeme = taken.front ++ t ∷ goes_on.rest in
      error_never (document_read all) (Some t.start)
      (read_whole all (t ∷ goes_on.rest) d
      (taken.stays (t ∷ goes_on.rest) (follows_first t ts goes_on.rest))) goes_on.document
      (document_is_read all goes_on.document
      (subst (λ (xs : List Lexeme). IsDocument xs goes_on.document)
      (append_assoc taken.front (t ∷ []) goes_on.rest) goes_on.is));
}

stop_there : (stop other : Option ℕ)
    → (let read : Read Document = Err stop in read ≡ Err other) → stop ≡ other
stop_there stop other is = cc

stops : (tokens : List Lexeme) (stop : Option ℕ) → document_read tokens ≡ Err stop
    → FirstRefused tokens stop
stops tokens stop is = go (document tokens) refl (document_good tokens)
  where
    ends : (d : Document) (rest : List Lexeme) → document tokens ≡ Ok (d, rest)
        → Taken 0 document tokens d rest → FirstRefused tokens stop
    ends d [] read taken =
        absurd (error_never (document_read tokens) stop is d (read_whole tokens [] d read))
    ends d (t ∷ ts) read taken =
        subst (FirstRefused tokens)
        (stop_there (Some t.start) stop (sym (read_whole tokens (t ∷ ts) d read) ∙ is))
        (behind_document tokens d t ts taken)

    failed : (other : Option ℕ) → document tokens ≡ Err other → document_read tokens ≡ Err other
    failed other read = document_same tokens ∙ rw read refl

    go : (r : Read (Document × List Lexeme)) → document tokens ≡ r
        → Outcome 2 0 document tokens r → FirstRefused tokens stop
    go (Ok found) read taken = ends found.0 found.1 read taken
    go (Err (Some place)) read refuses =
        subst (FirstRefused tokens)
        (stop_there (Some place) stop (sym (failed (Some place) read) ∙ is))
        (refused_stops tokens place refuses)
    go (Err None) read cut =
        subst (FirstRefused tokens) (stop_there None stop (sym (failed None read) ∙ is))
        (record {
          before = live_goes_on tokens tokens [] cut.live;
          unfinished = λ d. never_document tokens
              (error_never (document tokens) None read) d;
        })

-- ---- at one place at most

-- what goes on behind a longer front goes on behind a shorter one
goes_on_before : (front more behind : List Lexeme) → GoesOn (front ++ more) behind
    → GoesOn front (more ++ behind)
goes_on_before front more behind g = record {
  rest = more ++ g.rest;
  document = g.document;
  is = subst (λ (ts : List Lexeme). IsDocument ts g.document) (append_assoc front more g.rest) g.is;
  heads = λ ends within. heads more g ends within;
}
  where
    heads : (more : List Lexeme) (g : GoesOn (front ++ more) behind) → EndsInWord front
        → InItem front → Follows (more ++ behind) (more ++ g.rest)
    heads [] g ends within =
        g.heads (subst EndsInWord (sym (append-nil front)) ends)
        (subst InItem (sym (append-nil front)) within)
    heads (t ∷ ts) g ends within = follows_first t (ts ++ behind) (ts ++ g.rest)

goes_on_to : (front : List Lexeme) (t : Lexeme) (more behind : List Lexeme)
    → GoesOn (front ++ t ∷ more) behind → GoesOn (front ++ t ∷ []) (more ++ behind)
goes_on_to front t more behind g =
    goes_on_before (front ++ t ∷ []) more behind
    (subst (λ (ts : List Lexeme). GoesOn ts behind)
    (sym (append_assoc front (t ∷ []) more)) g)

-- one list in parts around two tokens: they are at one place, or one front holds the other and its
-- token
abbrev Parted : List Lexeme → Lexeme → List Lexeme → List Lexeme → Lexeme → List Lexeme → Type 0
Parted f t r g u s = ((f ≡ g) × (t ≡ u))
    ⊎ (((more : List Lexeme) × (f ≡ g ++ u ∷ more) × (s ≡ more ++ t ∷ r))
    ⊎ ((more : List Lexeme) × (g ≡ f ++ t ∷ more) × (r ≡ more ++ u ∷ s)))

parted_more : (x y : Lexeme) (f : List Lexeme) (t : Lexeme) (r g : List Lexeme) (u : Lexeme)
    (s : List Lexeme) → x ≡ y → Parted f t r g u s → Parted (x ∷ f) t r (y ∷ g) u s
parted_more x y f t r g u s same (inl (fronts, tokens)) =
    inl (ap (λ (z : Lexeme). z ∷ f) same ∙ ap (λ (zs : List Lexeme). y ∷ zs) fronts, tokens)
parted_more x y f t r g u s same (inr (inl (more, is, rest))) =
    inr (inl (
      more,
      ap (λ (z : Lexeme). z ∷ f) same ∙ ap (λ (zs : List Lexeme). y ∷ zs) is,
      rest,
    ))
parted_more x y f t r g u s same (inr (inr (more, is, rest))) =
    inr (inr (
      more,
      ap (λ (z : Lexeme). z ∷ g) (sym same) ∙ ap (λ (zs : List Lexeme). x ∷ zs) is,
      rest,
    ))

parted : (f : List Lexeme) (t : Lexeme) (r g : List Lexeme) (u : Lexeme) (s : List Lexeme)
    → f ++ t ∷ r ≡ g ++ u ∷ s → Parted f t r g u s
parted [] t r [] u s e = inl (refl, cc)
parted [] t r (y ∷ g) u s e =
    let same : y ≡ t = cc in
    let rest : r ≡ g ++ u ∷ s = cc in
    inr (inr (g, ap (λ (z : Lexeme). z ∷ g) same, rest))
parted (x ∷ f) t r [] u s e =
    let same : x ≡ u = cc in
    let rest : s ≡ f ++ t ∷ r = cc in
    inr (inl (f, ap (λ (z : Lexeme). z ∷ f) same, rest))
parted (x ∷ f) t r (y ∷ g) u s e =
    let same : x ≡ y = cc in
    let tails : f ++ t ∷ r ≡ g ++ u ∷ s = cc in
    parted_more x y f t r g u s same (parted f t r g u s tails)

-- where one place is, no document goes on behind its token
later_never : (f : List Lexeme) (t : Lexeme) (r more : List Lexeme) (u : Lexeme)
    (g s : List Lexeme) → ¬ GoesOn (f ++ t ∷ []) r → GoesOn g (u ∷ s) → g ≡ f ++ t ∷ more
    → r ≡ more ++ u ∷ s → ⊥
later_never f t r more u g s refused goes_on is rest =
    refused (subst (λ (ts : List Lexeme). GoesOn (f ++ t ∷ []) ts) (sym rest)
    (goes_on_to f t more (u ∷ s) (subst (λ (ts : List Lexeme). GoesOn ts (u ∷ s)) is goes_on)))

cut_never : (tokens : List Lexeme) (place : ℕ) → RefusedAt tokens place → CutOff tokens → ⊥
cut_never tokens place r c =
    r.refused (subst (λ (ts : List Lexeme). GoesOn (r.front ++ r.token ∷ []) ts)
    (append-nil r.behind)
    (goes_on_to r.front r.token r.behind []
    (subst (λ (ts : List Lexeme). GoesOn ts []) r.parts c.before)))

one_place : (tokens : List Lexeme) (place other : ℕ) (a : RefusedAt tokens place)
    (b : RefusedAt tokens other)
    → Parted a.front a.token a.behind b.front b.token b.behind → place ≡ other
one_place tokens place other a b (inl (fronts, same)) =
    sym a.at ∙ ap (λ (t : Lexeme). t.start) same ∙ b.at
one_place tokens place other a b (inr (inl (more, is, rest))) =
    absurd (later_never b.front b.token b.behind more a.token a.front a.behind b.refused a.before is
    rest)
one_place tokens place other a b (inr (inr (more, is, rest))) =
    absurd (later_never a.front a.token a.behind more b.token b.front b.behind a.refused b.before is
    rest)

pub stops_once : StopsOnce
stops_once tokens (Some place) (Some other) a b =
    ap (λ (n : ℕ). Some n) (one_place tokens place other a b
    (parted a.front a.token a.behind b.front b.token b.behind (sym a.parts ∙ b.parts)))
stops_once tokens (Some place) None a b = absurd (cut_never tokens place a b)
stops_once tokens None (Some other) a b = absurd (cut_never tokens other b a)
stops_once tokens None None a b = refl

-- a document stops nowhere
none_stops : (tokens : List Lexeme) (d : Document) → IsDocument tokens d → (stop : Option ℕ)
    → ¬ FirstRefused tokens stop
none_stops tokens d is (Some place) r =
    r.refused (record {
      rest = r.behind;
      document = d;
      is = subst (λ (ts : List Lexeme). IsDocument ts d)
          (r.parts ∙ sym (append_assoc r.front (r.token ∷ []) r.behind)) is;
      heads = λ ends within h. h;
    })
none_stops tokens d is None c = c.unfinished d is

stops_back : (tokens : List Lexeme) (stop : Option ℕ) → FirstRefused tokens stop
    → document_read tokens ≡ Err stop
stops_back tokens stop first = go (document_read tokens) refl
  where
    go : (r : Read Document) → document_read tokens ≡ r → r ≡ Err stop
    go (Ok d) is = absurd (none_stops tokens d (document_written tokens d is) stop first)
    go (Err other) is =
        ap (λ (s : Option ℕ). let r : Read Document = Err s in r)
        (stops_once tokens other stop (stops tokens other is) first)

pub stops_where_refused : StopsWhereRefused
stops_where_refused tokens stop = (stops tokens stop, stops_back tokens stop)

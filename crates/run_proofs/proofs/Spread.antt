-- Texts behind spaces, and how they are read.
use Rattle.std.proofs.Common.{◌≡◌, ◌≢◌, ℕ, List, [], ◌∷◌, ◌++◌, refl, sym, ◌∙◌, ap, append_assoc}
use Rattle.std.proofs.Common.{get_or}
use Rattle.std.specs.Prelude.{flat_map}
use Rattle.std.specs.List.{All}
use Rattle.std.proofs.lemmas.Grind.{flat_map-append}
use Rattle.std.proofs.lemmas.List.{append-nil}
use Rattle.std.proofs.lemmas.List.Elements.{All-nil, All-head, All-tail, All-push}
use Rattle.run_proofs.specs.Words.{EndsWord, IsCut, IsNoWord, Begins, BeginsNone}
use Rattle.run_proofs.proofs.Words.{Free}

-- a text is cut at the end of its first word in one way
pub first_end : (a f b i : List ℕ) → Free a → Free f → EndsWord b → EndsWord i
    → a ++ b ≡ f ++ i → (a ≡ f) × (b ≡ i)
first_end [] [] b i one other ends closes same = (refl, same)
first_end [] (y ∷ f) [] i one other ends closes same = absurd (cc)
first_end [] (y ∷ f) (x ∷ b) i one other ends closes same =
    absurd (All-head (λ b. b ≢ 32) y f other (cc))
first_end (x ∷ a) [] b [] one other ends closes same = absurd (cc)
first_end (x ∷ a) [] b (y ∷ i) one other ends closes same =
    absurd (All-head (λ b. b ≢ 32) x a one (cc))
first_end (x ∷ a) (y ∷ f) b i one other ends closes same =
    let rest : (a ≡ f) × (b ≡ i) =
    first_end a f b i (All-tail (λ b. b ≢ 32) x a one) (All-tail (λ b. b ≢ 32) y f other) ends
    closes (cc) in
    let first : x ≡ y = cc in
    (ap (λ (z : ℕ). z ∷ a) first ∙ ap (λ (zs : List ℕ). y ∷ zs) rest.0, rest.1)

-- texts that differ in a byte
pub apart_at : (s t : List ℕ) → s ≡ t → (k m n : ℕ) → get_or s k 0 ≡ m → get_or t k 0 ≡ n
    → m ≢ n → ⊥
apart_at s t same k m n at there differ =
    differ (sym at ∙ (ap (λ (u : List ℕ). get_or u k 0) same ∙ there))

module _ {X : Type 0} (text_of : X → List ℕ) (Fits : X → Type 0) where
  abbrev pub spread : List X → List ℕ
  spread xs = flat_map (λ x. 32 ∷ text_of x) xs

  pub spread_ends : (xs : List X) → EndsWord (spread xs)
  spread_ends [] = tt
  spread_ends (x ∷ xs) = refl

  -- these were read from the text, and this is left
  pub record HasRead (text : List ℕ) (xs : List X) (rest : List ℕ) : Type 0 where
    pub whole : text ≡ spread xs ++ rest
    pub fit : All Fits xs
    pub others : (ys : List X) → All Fits ys → text ≡ spread ys
        → (zs : List X) × All Fits zs × (rest ≡ spread zs)

  pub none_read : (text rest : List ℕ) → text ≡ rest → HasRead text [] rest
  none_read text rest same = record {
    whole = same;
    fit = All-nil Fits;
    others = λ ys fits is. (ys, fits, sym same ∙ is);
  }

  -- all
  pub all_read : (text : List ℕ) (xs : List X) (rest : List ℕ) → HasRead text xs rest → rest ≡ []
      → text ≡ spread xs
  all_read text xs rest has none =
      has.whole ∙ (ap (λ (t : List ℕ). spread xs ++ t) none ∙ append-nil (spread xs))

  -- what is left begins with none
  pub stuck : (text : List ℕ) (xs : List X) (rest : List ℕ) → HasRead text xs rest
      → (rest ≡ [] → ⊥) → BeginsNone text_of Fits rest
      → (ys : List X) → All Fits ys → text ≡ spread ys → ⊥
  stuck text xs rest has some none ys fits is =
      let left = has.others ys fits is in by left.0 left.1 left.2
    where
      by : (zs : List X) → All Fits zs → rest ≡ spread zs → ⊥
      by [] fits is = some is
      by (z ∷ zs) fits is =
          none z (spread zs)
          (record { fits = All-head Fits z zs fits; whole = is; ends = spread_ends zs })

  -- where there is no word
  pub no_word : (text : List ℕ) → IsNoWord text → BeginsNone text_of Fits text
  no_word text none x rest begins = none (text_of x ++ rest) begins.whole

  -- the word is one's
  pub such_word : (text word rest : List ℕ) (x : X) → IsCut text word rest → Fits x
      → word ≡ text_of x → Begins text_of Fits text x rest
  such_word text word rest x cut fits is = record {
    fits = fits;
    whole = cut.whole ∙ ap (λ (w : List ℕ). 32 ∷ w ++ rest) is;
    ends = cut.ends;
  }

  module _ (free : (x : X) → Fits x → Free (text_of x)) where
    -- it is nobody's
    pub no_such_word : (text word rest : List ℕ) → IsCut text word rest
        → ((x : X) → Fits x → word ≡ text_of x → ⊥) → BeginsNone text_of Fits text
    no_such_word text word rest cut none x later begins =
        let both : 32 ∷ word ++ rest ≡ 32 ∷ text_of x ++ later = sym cut.whole ∙ begins.whole in
        none x begins.fits (first_end word (text_of x) rest later cut.free (free x begins.fits)
        cut.ends begins.ends (cc)).0

    -- one more
    pub one_read : (text : List ℕ) (xs : List X) (rest later : List ℕ) (x : X)
        → HasRead text xs rest → Begins text_of Fits rest x later
        → HasRead text (xs ++ x ∷ []) later
    one_read text xs rest later x has begins = record {
      whole = has.whole
          ∙ (ap (λ (t : List ℕ). spread xs ++ t) begins.whole
          ∙ (sym (append_assoc (spread xs) (32 ∷ text_of x) later)
          ∙ ap (λ (t : List ℕ). t ++ later)
          (sym (flat_map-append (λ x. 32 ∷ text_of x) xs (x ∷ [])
          ∙ ap (λ (t : List ℕ). spread xs ++ t) (append-nil (32 ∷ text_of x))))));
      fit = All-push Fits xs x has.fit begins.fits;
      others = λ ys fits is. let left = has.others ys fits is in behind left.0 left.1 left.2;
    }
      where
        behind : (zs : List X) → All Fits zs → rest ≡ spread zs
            → (ws : List X) × All Fits ws × (later ≡ spread ws)
        behind [] fits is =
            let none : 32 ∷ text_of x ++ later ≡ [] = sym begins.whole ∙ is in
            absurd (cc)
        behind (z ∷ zs) fits is =
            let both : 32 ∷ text_of x ++ later ≡ 32 ∷ text_of z ++ spread zs =
            sym begins.whole ∙ is in (
              zs,
              All-tail Fits z zs fits,
              (first_end (text_of x) (text_of z) later (spread zs) (free x begins.fits)
                  (free z (All-head Fits z zs fits)) begins.ends (spread_ends zs) (cc)).1,
            )

    -- such a text is that of one list
    pub one_spread : ((x y : X) → Fits x → Fits y → text_of x ≡ text_of y → x ≡ y)
        → (xs ys : List X) → All Fits xs → All Fits ys → spread xs ≡ spread ys → xs ≡ ys
    one_spread apart [] [] fits suits same = refl
    one_spread apart [] (y ∷ ys) fits suits same = absurd (cc)
    one_spread apart (x ∷ xs) [] fits suits same = absurd (cc)
    one_spread apart (x ∷ xs) (y ∷ ys) fits suits same =
        let parts : (text_of x ≡ text_of y) × (spread xs ≡ spread ys) =
        first_end (text_of x) (text_of y) (spread xs) (spread ys)
        (free x (All-head Fits x xs fits)) (free y (All-head Fits y ys suits)) (spread_ends xs)
        (spread_ends ys) (cc) in
        let first : x ≡ y = apart x y (All-head Fits x xs fits) (All-head Fits y ys suits) parts.0
        in
        let rest : xs ≡ ys = one_spread apart xs ys (All-tail Fits x xs fits)
        (All-tail Fits y ys suits) parts.1 in
        ap (λ (z : X). z ∷ xs) first ∙ ap (λ (zs : List X). y ∷ zs) rest

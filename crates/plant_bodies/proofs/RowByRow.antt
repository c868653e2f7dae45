-- The rows of a body, one by one. Assumes nothing.
use Rattle.std.proofs.Common.{◌≡◌, ℕ, zero, suc, ◌+◌, ◌<◌, List, [], ◌∷◌, ◌++◌, map, length, take, drop, sym, refl, ap, ◌∙◌, arith, append_assoc, append-nil}
use Rattle.std.specs.Simd.{first_chunks}
use Rattle.plant_bodies.specs.Rows.{rows_in, four}

-- there are as many as asked for
pub length_rows : {R : Type 0} (said : List ℕ → R) (n : ℕ) (bs : List ℕ) → length (rows_in said n bs) ≡ n
length_rows said zero bs = refl
length_rows said (suc n) bs = ap (λ k. suc k) (length_rows said n (drop 4 bs))

-- a row lies in four bytes
four_front : (bs : List ℕ) → four (take 4 bs) ≡ four bs
four_front [] = refl
four_front (a ∷ []) = refl
four_front (a ∷ (b ∷ [])) = refl
four_front (a ∷ (b ∷ (c ∷ []))) = refl
four_front (a ∷ (b ∷ (c ∷ (d ∷ bs)))) = refl

said_front : {R : Type 0} (said : List ℕ → R) → ((bs : List ℕ) → said (four bs) ≡ said bs) → (bs : List ℕ) → said (take 4 bs) ≡ said bs
said_front said alone bs = sym (alone (take 4 bs)) ∙ (ap said (four_front bs) ∙ alone bs)

-- they are what the pieces of four bytes say
pub rows_fours : {R : Type 0} (said : List ℕ → R) → ((bs : List ℕ) → said (four bs) ≡ said bs) → (n : ℕ) (bs : List ℕ) → map said (first_chunks 4 n bs) ≡ rows_in said n bs
rows_fours said alone zero bs = refl
rows_fours said alone (suc n) bs = ap (λ r. r ∷ map said (first_chunks 4 n (drop 4 bs))) (said_front said alone bs) ∙ ap (λ rs. said bs ∷ rs) (rows_fours said alone n (drop 4 bs))

-- none is read yet
pub rows_begun : {R : Type 0} (said : List ℕ → R) → ((bs : List ℕ) → said (four bs) ≡ said bs) → (most n k : ℕ) (fours : List (List ℕ)) (bs : List ℕ) (held : List R) →
    fours ≡ first_chunks 4 k bs → n ≡ most → held ≡ [] → held ++ take n (map said fours) ≡ take most (rows_in said k bs)
rows_begun said alone most n k fours bs held f e h =
    ap (λ xs. xs ++ take n (map said fours)) h ∙ (ap (λ j. take j (map said fours)) e ∙ ap (take most) (ap (map said) f ∙ rows_fours said alone k bs))

module _ {R : Type 0} (said : List ℕ → R) (held all : List R) (n : ℕ) (fours : List (List ℕ)) where
  -- one row more is read
  pub row_read : (four : List ℕ) (rest : List (List ℕ)) (row : R) (k : ℕ) (more : List R) → fours ≡ four ∷ rest → k + 1 ≡ n → row ≡ said four → more ≡ held ++ (row ∷ []) →
      held ++ take n (map said fours) ≡ all → more ++ take k (map said rest) ≡ all
  row_read four rest row k more e f r m h =
      let count : suc k ≡ n = omega arith in
      ap (λ xs. xs ++ take k (map said rest)) m
      ∙ (append_assoc held (row ∷ []) (take k (map said rest))
      ∙ (ap (λ x. held ++ (x ∷ take k (map said rest))) r
      ∙ (ap (λ xs. held ++ take (suc k) (map said xs)) (sym e) ∙ (ap (λ j. held ++ take j (map said fours)) count ∙ h))))

  -- none is left
  pub rows_read : (0 < n → length fours ≡ 0) → held ++ take n (map said fours) ≡ all → held ≡ all
  rows_read last h = sym (append-nil held) ∙ (ap (λ xs. held ++ xs) (sym (none n fours last)) ∙ h)
    where
      none : (n : ℕ) (fours : List (List ℕ)) → (0 < n → length fours ≡ 0) → take n (map said fours) ≡ []
      none zero fours last = refl
      none (suc n) [] last = refl
      none (suc n) (four ∷ fours) last = let l = last (omega arith) in absurd (omega arith)

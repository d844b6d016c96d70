-- The first bytes of a row, each by itself. One that is missing is 0.
use Rattle.std.proofs.Common.{◌≡◌, ℕ, List, [], ◌∷◌, ◌++◌, take, replicate, refl}
use Rattle.disk_model.specs.Numbers.{byte_at}

pub first_4 : (bytes : List ℕ) → take 4 (bytes ++ replicate 4 0) ≡ byte_at 0 bytes ∷ byte_at 1 bytes ∷ byte_at 2 bytes ∷ byte_at 3 bytes ∷ []
first_4 [] = refl
first_4 (a ∷ []) = refl
first_4 (a ∷ b ∷ []) = refl
first_4 (a ∷ b ∷ c ∷ []) = refl
first_4 (a ∷ b ∷ c ∷ d ∷ more) = refl

pub first_8 : (bytes : List ℕ) → take 8 (bytes ++ replicate 8 0)
    ≡ byte_at 0 bytes ∷ byte_at 1 bytes ∷ byte_at 2 bytes ∷ byte_at 3 bytes ∷ byte_at 4 bytes ∷ byte_at 5 bytes ∷ byte_at 6 bytes ∷ byte_at 7 bytes ∷ []
first_8 [] = refl
first_8 (a ∷ []) = refl
first_8 (a ∷ b ∷ []) = refl
first_8 (a ∷ b ∷ c ∷ []) = refl
first_8 (a ∷ b ∷ c ∷ d ∷ []) = refl
first_8 (a ∷ b ∷ c ∷ d ∷ e ∷ []) = refl
first_8 (a ∷ b ∷ c ∷ d ∷ e ∷ f ∷ []) = refl
first_8 (a ∷ b ∷ c ∷ d ∷ e ∷ f ∷ g ∷ []) = refl
first_8 (a ∷ b ∷ c ∷ d ∷ e ∷ f ∷ g ∷ h ∷ more) = refl

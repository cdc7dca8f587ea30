-- The token of a lifetime κ, lent to a call together with that of a lifetime ν that is made for it: what goes is a token of their meet beside one of κ, and both come back.
use mathlib.Core.List.{[], ◌∷◌}
use Prim.Native.Nat.{ℕ}
use seplogic.Ra.Ura.{Ura}
use base.Share
use base.Fraction.{full_share}
use base.Logic.{SProp, ent, wand, apply∗}
use base.Fml.{Lft, Share, ftrue, flft}
use types.Logic.{Logic}
use types.Kit.{Item, ‵, raw, ◌⊛◌, ⋆, ◌$◌, ◌∵◌, !, qed, move, use1, use2, split, join, frame, done}

-- a function's one token
abbrev pub Toks : {M : Type 1} (𝓤 : Ura M) → Lft → Share → Item 𝓤
Toks 𝓤 κ q = ‵ (flft κ q) ⊛ ‵ ftrue

-- what goes to the call, and what makes the whole token of ν again
abbrev pub Met : {M : Type 1} (𝓤 : Ura M) → Lft → Share → ℕ → Item 𝓤
Met 𝓤 κ q ν = ‵ (flft (ν ∷ κ) (Share.left q)) ⊛ ‵ (flft κ (Share.right q)) ⊛ ‵ ftrue

abbrev pub Back : {M : Type 1} {𝓤 : Ura M} → (𝓛 : Logic 𝓤) → Share → ℕ → SProp 𝓤
Back {𝓤 = 𝓤} 𝓛 q ν = wand 𝓤 (𝓛.A.lft (ν ∷ []) (Share.left q)) (𝓛.A.lft (ν ∷ []) full_share)

module _ {M : Type 1} {𝓤 : Ura M} (𝓛 : Logic 𝓤) (κ : Lft) (q : Share) (ν : ℕ) where
  open 𝓛 use {A}

  pub met : ent 𝓤 (⋆ 𝓛 (Toks 𝓤 κ q ∷ ‵ (flft (ν ∷ []) full_share) ∷ [])) (⋆ 𝓛 (Met 𝓤 κ q ν ∷ raw (Back 𝓛 q ν) ∷ []))
  met =
      qed 𝓛 (Toks 𝓤 κ q ∷ ‵ (flft (ν ∷ []) full_share) ∷ []) ∵ split ! $ use1 𝓛 (‵ (flft κ (Share.left q)) ⊛ ‵ (flft κ (Share.right q))) (𝓛.lfts.lft_split κ q) $ split ! $
      move ! (3 ∷ []) $ use1 𝓛 (‵ (flft (ν ∷ []) (Share.left q)) ⊛ raw (Back 𝓛 q ν)) (𝓛.lfts.lft_carve ν (Share.left q)) $ split ! $
      move ! (0 ∷ 2 ∷ []) $ use2 𝓛 (‵ (flft (ν ∷ κ) (Share.left q))) (𝓛.lfts.lft_meet (ν ∷ []) κ (Share.left q)) $
      move ! (2 ∷ 3 ∷ []) $ join ! $ move ! (1 ∷ 0 ∷ []) $ join ! $ frame ! $ done !

  pub parted : ent 𝓤 (⋆ 𝓛 (Met 𝓤 κ q ν ∷ raw (Back 𝓛 q ν) ∷ [])) (⋆ 𝓛 (‵ (flft (ν ∷ []) full_share) ∷ Toks 𝓤 κ q ∷ []))
  parted =
      qed 𝓛 (Met 𝓤 κ q ν ∷ raw (Back 𝓛 q ν) ∷ []) ∵ split ! $ use1 𝓛 (‵ (flft (ν ∷ []) (Share.left q)) ⊛ ‵ (flft κ (Share.left q))) (𝓛.lfts.lft_unmeet (ν ∷ []) κ (Share.left q)) $ split ! $
      move ! (0 ∷ 3 ∷ []) $ use2 𝓛 (‵ (flft (ν ∷ []) full_share)) (apply∗ 𝓤 (A.lft (ν ∷ []) (Share.left q)) (A.lft (ν ∷ []) full_share)) $ frame ! $
      move ! (1 ∷ []) $ split ! $ move ! (2 ∷ 0 ∷ []) $ use2 𝓛 (‵ (flft κ q)) (𝓛.lfts.lft_join κ q) $ join ! $ done !

pub mod LettersLaws

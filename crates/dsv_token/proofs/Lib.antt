pub mod Runs
pub mod Numbers
pub mod Texts
pub mod Skips
pub mod Places
pub mod PieceLaws
pub mod FrontLaws
pub mod CutLaws

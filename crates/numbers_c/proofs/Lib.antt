pub mod GcdAnswers

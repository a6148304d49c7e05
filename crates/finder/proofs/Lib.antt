mod CalmQuestions
